-- From the lines that a program holds to the worksheet.
use Rattle.std.proofs.Common.{◌≡◌, ℕ, ◌+◌, ◌-◌, ◌<◌, ◌≤◌, List, length, get_or, take, sym, ap, ◌∙◌, subst, ⊎_elim, arith}
use mathlib.Core.Path.{fun_ext}
use Rattle.std.proofs.lemmas.List.FromFn.{length-map-range_with_len, get_or-map-range_with_len}
use Rattle.std.proofs.lemmas.List.{get_or_past}
use Rattle.std.proofs.lemmas.Bool.{cases_lt}
use Rattle.walking.specs.Curves.{Tables}
use Rattle.network.specs.declared.Element.{Element}
use Rattle.network.specs.Elements.{no_element, el}
use Rattle.network.specs.Ready.{Ready}
use Rattle.sheet.specs.declared.Line.{Line}
use Rattle.sheet.specs.Lines.{WorkedLine, idle, at, shown, no_line}
use Rattle.sheet.specs.Sheet.{sheet, lines}
use Rattle.ways.specs.declared.End.{End}
use Rattle.ways.specs.declared.Way.TheVariants.{Back, Onward}
use Rattle.ways.specs.Ends.{greatest_time, governing_by}
use Rattle.ways.specs.Walks.{Net, net, net_of, Walkable, Reaches, ranks, FirstMost}
use Rattle.ways.proofs.Joined.{worked_net}
use Rattle.ways.proofs.Sized.{worked_walkable}
use Rattle.ways.proofs.Found.{end_found, governs_found}
use Rattle.ways.proofs.Agreed.{end_is, governing_is}
use Rattle.routes.specs.Worksheets.{WorkedOut, Shows}

-- ---- the lines of a worksheet

module _ (t : Tables) (es : List Element) where
  length_lines : length (lines t es) ≡ length es
  unfolding lines
  length_lines = length-map-range_with_len (λ i. shown (el es i) (at (sheet t es) i)) 0 (length es)

  line_at : (i : ℕ) → i < length es → get_or (lines t es) i no_line ≡ shown (el es i) (at (sheet t es) i)
  unfolding lines
  line_at i l = get_or-map-range_with_len (λ i. shown (el es i) (at (sheet t es) i)) 0 (length es) i i no_line l (omega arith)

  -- past the end all are zeros
  line_past : length (sheet t es) ≡ length es → (i : ℕ) → length es ≤ i → get_or (lines t es) i no_line ≡ shown (el es i) (at (sheet t es) i)
  line_past size i l =
      get_or_past (lines t es) i no_line (omega (arith, length_lines))
      ∙ sym (ap (λ (e : Element). shown e (at (sheet t es) i)) (get_or_past es i no_element l) ∙ ap (shown no_element) (get_or_past (sheet t es) i idle (omega arith)))

-- ---- the network of the lines is that of the worksheet

-- what a search has found in a network
pub record Searched (n : Net) (h t : List ℕ) (g x : ℕ) : Type 0 where
  pub walkable : Walkable n
  pub back : Reaches Back n h
  pub onward : Reaches Onward n t
  pub most : FirstMost (ranks n h t) n.size g x

module _ (e : End) (es : List Element) (ls : List WorkedLine) (held : List Line) (sh : Shows es ls held) where
  same_net : net_of e es held ≡ worked_net e es ls
  same_net = ap (net e es) (fun_ext sh)

  pub rank_shown : Ready es → (h t : List ℕ) (g x : ℕ) → 0 < x → Searched (net_of e es held) h t g x → x ≡ 1 + greatest_time e es ls
  rank_shown rd h t g x pos s =
      let q = subst (λ (n : Net). Searched n h t g x) same_net s in
      let i = end_is e es ls rd (x - 1) (end_found e es ls q.walkable h t q.back q.onward g x q.most) in
      omega arith

  pub governing_shown : Ready es → (h t : List ℕ) (g x : ℕ) → Searched (net_of e es held) h t g x → g + 1 ≡ governing_by e es ls
  governing_shown rd h t g x s =
      let q = subst (λ (n : Net). Searched n h t g x) same_net s in
      let one : g + 1 ≡ 1 + g = omega arith in
      one ∙ governing_is e es ls rd g (governs_found e es ls q.walkable h t q.back q.onward g x q.most)

-- ---- the first lines held show the worksheet

module _ (t : Tables) (es : List Element) (held : List Line) (w : WorkedOut t es held) where
  pub sized : length es ≡ length (take (length es) held)
  sized = sym (ap length w.same ∙ length_lines t es)

  pub shows : Shows es (sheet t es) (take (length es) held)
  shows i =
      ap (λ (ls : List Line). get_or ls i no_line) w.same
      ∙ ⊎_elim (line_at t es i) (line_past t es w.facts.size i) (cases_lt i (length es))

  pub walkable : (e : End) → Walkable (net_of e es (take (length es) held))
  walkable e = subst Walkable (sym (same_net e es (sheet t es) (take (length es) held) shows)) (worked_walkable es (sheet t es) w.ready w.facts e)
