-- How the lines of a stretch were written.
use Rattle.std.specs.Prelude.{◌≡◌, ℕ, List, ◌++◌, Result, Ok, Err}
use Rattle.outside.specs.Streams.{AppendsPart}
use Rattle.batch_engine.specs.declared.closed.Stopped.{Stopped}
use Rattle.batch_engine.specs.declared.closed.Stopped.TheVariants.{Write, Memory}

-- what a stop left of these bytes, in an output that was the first and is the second
abbrev pub IsCutAt : Stopped → List ℕ → List ℕ → List ℕ → Type 0
IsCutAt Write before after lines = AppendsPart before after lines
IsCutAt Memory before after lines = after ≡ before

-- these bytes were written, or a stop left so much of them
abbrev pub IsWritten : {T : Type 0} → List ℕ → List ℕ → List ℕ → Result T Stopped → Type 0
IsWritten before after lines (Ok done) = after ≡ before ++ lines
IsWritten before after lines (Err why) = IsCutAt why before after lines
