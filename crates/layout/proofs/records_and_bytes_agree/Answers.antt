use Rattle.layout.proofs.RecordLaws.{decoding_undoes_encoding, encoding_undoes_decoding}
use Rattle.layout.proofs.records_and_bytes_agree.Goals as goal

pub returns : goal.returns
returns c = record { decoded = decoding_undoes_encoding; encoded = encoding_undoes_decoding }
