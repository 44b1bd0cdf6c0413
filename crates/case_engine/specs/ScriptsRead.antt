-- What a script in memory is to its readers.
use Rattle.case_engine.specs.Script.{Script}
use Rattle.case_engine.specs.Scripts.{script_in}
use Rattle.case_engine.specs.declared.script

-- the script that a script in memory is
abbrev pub script_is : script.Script.Script → Script
script_is s = script_in s.domains.items s.relations.items s.facts s.method s.know.items
    s.secrecies.items s.secrets.items s.budget s.asks.items
