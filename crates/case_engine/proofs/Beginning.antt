-- A script from its beginning.
use Rattle.std.proofs.Common.{◌≡◌, ℕ, List, ap}
use Rattle.script_lines.specs.Scripts.{script_from}
use Rattle.case_engine.specs.Script.{Script, empty_script, with_line, script_of}

-- what is read from a script that says nothing is the script of the bytes
pub script_begins : (start : Script) (bytes : List ℕ) → start ≡ empty_script → script_from with_line start bytes ≡ script_of bytes
unfolding script_of
script_begins start bytes is = ap (λ s. script_from with_line s bytes) is
