-- A connection that was served stays so.
use Rattle.std.proofs.Common.{◌≡◌, ℕ, Bool, true, false, List, [], ◌∷◌, ◌++◌, length, sym, ◌∙◌, subst, arith}
use Rattle.std.specs.Prelude.{Option, Some, None}
use Rattle.std.specs.Option.{option_or}
use Rattle.std.specs.List.{AllZip}
use Rattle.std.proofs.lemmas.List.{append-nil, length-append}
use Rattle.outside.specs.Visits.{Visit}
use Rattle.cqe_base.specs.Schema.{DatabaseSchema, Text}
use Rattle.cqe_base.specs.Facts.{FactSet}
use Rattle.cqe_base.specs.History.{UserProfile, AnsweredQuery, History}
use Rattle.cqe_base.specs.Run.{Standing, Reply}
use Rattle.cqe_base.specs.declared.user.User.{User}
use Rattle.session_core.specs.Replied.{Replied, nothing}
use Rattle.session_core.proofs.Replying.{replied_then, or_none, no_more}
use Rattle.serve_engine.specs.Served.{Member, member_broke, SessionMarks, IsLater, RepliedAt, here, further, RepliedTo, Served}

module _ (schema : DatabaseSchema) (world : FactSet) where
  -- replies by a history are replies by a longer one
  replied_longer : (user : UserProfile) (standing : Standing) (history more : History)
      (broke broke' : Bool) {least : ℕ} {asks : List (Text × Reply)} {entries : History} {in_flight : Option AnsweredQuery} → (broke ≡ true → broke' ≡ true)
      → (broke ≡ true → more ≡ []) → Replied schema world user standing history broke least false asks entries in_flight
      → Replied schema world user standing (history ++ more) broke' least false asks entries in_flight
  replied_longer user standing history more broke broke' {least} {asks} {entries} {in_flight} on still chain =
      let longer = length-append history more in
      let both = replied_then schema world user standing history more broke broke' on still chain (nothing (omega (arith, longer)) on) in
      subst (λ o. Replied schema world user standing (history ++ more) broke' least false asks entries o) (sym (or_none in_flight))
      (subst (λ a. Replied schema world user standing (history ++ more) broke' least false a entries (option_or in_flight None)) (append-nil asks)
      (subst (λ e. Replied schema world user standing (history ++ more) broke' least false (asks ++ []) e (option_or in_flight None)) (append-nil entries)
      both))

  -- so they are of the same user later
  replied_later : (before after : Member) {asks : List (Text × Reply)} {entries : History} {in_flight : Option AnsweredQuery} → IsLater before after
      → Replied schema world before.profile before.standing before.history (member_broke before) (length before.opening) false asks entries in_flight
      → Replied schema world after.profile after.standing after.history (member_broke after) (length after.opening) false asks entries in_flight
  replied_later before after {asks} {entries} {in_flight} later chain =
      let still : member_broke before ≡ true → later.further.0 ≡ [] =
      λ b. no_more before.history later.further.0 (sym later.further.1 ∙ later.still b) in
      let longer = replied_longer before.profile before.standing before.history later.further.0 (member_broke before)
      (member_broke after) later.broke still chain in
      subst (λ u. Replied schema world u after.standing after.history (member_broke after) (length after.opening) false asks entries in_flight)
      (sym later.profile)
      (subst (λ s. Replied schema world before.profile s after.history (member_broke after) (length after.opening) false asks entries in_flight)
      (sym later.standing)
      (subst (λ h. Replied schema world before.profile before.standing h (member_broke after) (length after.opening) false asks entries in_flight)
      (sym later.further.1)
      (subst (λ o. Replied schema world before.profile before.standing (before.history ++ later.further.0) (member_broke after) (length o) false asks entries
      in_flight) (sym later.opening) longer)))

  at_later : {place : ℕ} {before : List Member} {asks : List (Text × Reply)} {entries : History} {in_flight : Option AnsweredQuery} (after : List Member)
      → AllZip IsLater before after → RepliedAt schema world place before asks entries in_flight → RepliedAt schema world place after asks entries in_flight
  at_later [] all (here chain) = absurd all
  at_later [] all (further deep) = absurd all
  at_later (m ∷ after) all (here {member = member} chain) = here (replied_later member m all.0 chain)
  at_later (m ∷ after) all (further deep) = further (at_later after all.1 deep)

  to_later : (who : Option ℕ) (asks : List (Text × Reply)) (entries : History) (in_flight : Option AnsweredQuery) (before after : List Member)
      → AllZip IsLater before after → RepliedTo schema world who before asks entries in_flight → RepliedTo schema world who after asks entries in_flight
  to_later None asks entries in_flight before after all replied = replied
  to_later (Some place) asks entries in_flight before after all replied = at_later after all replied

  -- A connection that was served stays so while histories grow and appends fail.
  pub served_later : (users : List User) (before after : List Member) (visit : Visit) (marks : SessionMarks) → AllZip IsLater before after
      → Served schema world users before visit marks → Served schema world users after visit marks
  served_later users before after visit marks all served = record {
    lines = served.lines;
    asks = served.asks;
    texts = served.texts;
    to_end = served.to_end;
    talks = served.talks;
    replied = to_later marks.who served.asks marks.entries marks.in_flight before after all served.replied;
    heard = served.heard;
    all_heard = served.all_heard;
    wrote = served.wrote;
    all_written = served.all_written;
    whole = served.whole;
  }
