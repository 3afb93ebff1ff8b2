mod Shown
mod Standing
