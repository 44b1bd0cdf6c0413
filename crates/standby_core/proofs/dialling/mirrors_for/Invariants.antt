use Rattle.std.proofs.Common.{◌≡◌, ◌+◌, ◌≤◌, length, take, map}
use Rattle.std.specs.Prelude.{vec_len, vec_capacity, string_bytes}
use Rattle.cqe_base.specs.declared.user.User.{User}
use Rattle.log_journal.specs.Names.{journal_name}
use Rattle.standby_core.specs.Doors.{KeepsDoors, KeepsCalls}
use Rattle.standby_core.specs.Slots.{slot_name, slot_texts, AreUnused}
use Rattle.standby_core.specs.Users.{texts_for}
use Rattle.standby_core.proofs.dialling.mirrors_for.Given as goal

-- the mirrors of the users so far, which weren't taken yet
abbrev pub invariant-loop-user : goal.invariant-loop-user
invariant-loop-user g l = record {
  made : map (slot_texts g.L.Dial.Dial.name g.L.Dial.Dial.address) l.slots.items
      ≡ map (texts_for l.header l.address l.directory) (take l.user-index l.users);
  names : map slot_name l.slots.items ≡ map (λ (u : User). journal_name l.directory (string_bytes u.name)) (take l.user-index l.users);
  unused : AreUnused g.L.Dial.Dial.tells g.L.Dial.Dial.faults g.L.Dial.Dial.exchanged l.slots.items;
  count : vec_len l.slots ≡ l.user-index;
  room : length l.users ≤ vec_capacity l.slots;
  dialling : g.L.Links.dialling l.links ≡ g.L.Links.dialling l.fn.links + l.user-index;
  calls : KeepsCalls g.L.Links l.fn.links l.links;
  doors : KeepsDoors g.L.Links l.fn.links l.links;
}
