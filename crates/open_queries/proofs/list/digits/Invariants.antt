use Rattle.std.proofs.Common.{◌≡◌, ◌<◌, ◌≤◌, ◌-◌, ◌++◌, length, take, drop, replicate}
use Rattle.open_queries.specs.Instances.{combinations, digits}
use Rattle.open_queries.proofs.list.digits.Given as goal

-- the digits so far, and those of the rest, are those of the number; behind them stand zeros
abbrev pub invariant-loop-place : goal.invariant-loop-place
invariant-loop-place l = record {
  four : length l.digits ≡ 4;
  made : take l.place l.digits ++ digits l.schema (drop l.place l.domains) l.rest ≡ digits l.schema l.domains l.number;
  zeros : drop l.place l.digits ≡ replicate (4 - l.place) 0;
  small : l.rest ≤ l.number;
  left : l.rest < combinations l.schema (drop l.place l.domains);
}
