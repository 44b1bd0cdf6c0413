-- What a buffer of lines shows.
use Rattle.std.specs.Prelude.{ℕ, List, ◌++◌}

-- the line that was read last, without its end, and the bytes behind it that were taken from the
-- source already
pub record BufferedLine : Type 0 where
  pub line : List ℕ
  pub ahead : List ℕ

-- the bytes that are still to be read, where the source has these left
abbrev pub unread : BufferedLine → List ℕ → List ℕ
unread buffer left = buffer.ahead ++ left
