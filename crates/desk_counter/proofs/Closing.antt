-- What a closed desk shows of the pairs that were seen.
use Rattle.std.proofs.Common.{◌≡◌, ℕ, ◌≤◌, true, false, List, [], ◌++◌, length, sym, ap, ◌∙◌, subst}
use Rattle.std.specs.Prelude.{Option, None, is_some, option_to_list}
use Rattle.std.proofs.lemmas.List.{length-take-le}
use Rattle.outside.specs.Faults.{Rose}
use Rattle.outside.specs.declared.disk.Disk.{Ghosts as DiskGhosts}
use Rattle.cqe_base.specs.Censor.{IsLegal}
use Rattle.cqe_base.specs.Limits.{KeepsSizes}
use Rattle.cqe_base.specs.History.{AnsweredQuery, History}
use Rattle.turnstile.specs.History.{Entries}
use Rattle.user_desk.specs.declared.desk.Desk.{Desk}
use Rattle.user_desk.specs.Causes.{OpensWithin}
use Rattle.user_desk.specs.Entries.{StandsFor, IsNoLonger}
use Rattle.user_desk.specs.Standings.{standing_of, is_open, is_sealed}
use Rattle.user_desk.specs.Lives.{Holds, shown}
use Rattle.user_desk.specs.Desks.{desk_schema, desk_world, desk_user, desk_header, desk_standing, desk_history, desk_disk, opening_count, opening_disk}
use Rattle.user_desk.specs.Desks.{entry_in_flight, is_broken_desk, state_of}
use Rattle.desk_counter.specs.declared.item.TurnItem.{TurnItem}
use Rattle.desk_counter.specs.declared.item.Fixed.{Fixed}
use Rattle.desk_counter.specs.Items.{history_of, flying, has_broke}
use Rattle.desk_counter.specs.Desks.{fixed_of, state_shown}
use Rattle.desk_counter.proofs.Settling.{none_flies}

module _ {D : Type 0} {g : _} (desk : Desk D g) (fixed : Fixed D) (pairs : Entries TurnItem) (same : fixed_of desk ≡ fixed)
    (entries : desk_history desk ≡ history_of pairs) (flies : entry_in_flight desk ≡ flying pairs) where
  pub closed_legal : IsLegal (desk_schema desk) (desk_world desk) (desk_user desk) (desk_history desk)
      → IsLegal fixed.schema fixed.world fixed.user (history_of pairs)
  closed_legal legal =
      subst (λ (f : Fixed D). IsLegal f.schema f.world f.user (history_of pairs)) same
      (subst (λ (h : History). IsLegal (desk_schema desk) (desk_world desk) (desk_user desk) h) entries legal)

  pub closed_sizes : KeepsSizes (desk_schema desk) (desk_user desk) (desk_history desk) → KeepsSizes fixed.schema fixed.user (history_of pairs)
  closed_sizes sizes =
      subst (λ (f : Fixed D). KeepsSizes f.schema f.user (history_of pairs)) same
      (subst (λ (h : History). KeepsSizes (desk_schema desk) (desk_user desk) h) entries sizes)

  -- whether an append failed
  pub closed_broke : is_broken_desk desk ≡ has_broke pairs
  closed_broke = ap (λ (o : Option AnsweredQuery). is_some o) flies

  pub closed_sealed : is_sealed (desk_standing desk) ≡ is_sealed fixed.standing
  closed_sealed = ap (λ (f : Fixed D). is_sealed f.standing) same

  module _ (Disk : DiskGhosts D) where
    pub closed_whole : (Disk.tells → is_sealed (desk_standing desk) ≡ false → is_broken_desk desk ≡ false → (c : List ℕ) → Disk.image (desk_disk desk) c
        → StandsFor (desk_schema desk) (desk_header desk) (desk_history desk) c)
        → Disk.tells → is_sealed fixed.standing ≡ false → has_broke pairs ≡ false → (c : List ℕ) → Disk.image (desk_disk desk) c
        → StandsFor fixed.schema fixed.header (history_of pairs) c
    closed_whole known t served unbroken c here =
        subst (λ (f : Fixed D). StandsFor f.schema f.header (history_of pairs) c) same
        (subst (λ (h : History). StandsFor (desk_schema desk) (desk_header desk) h c) entries
        (known t (closed_sealed ∙ served) (closed_broke ∙ unbroken) c here))

    pub closed_images : (Disk.tells → is_sealed (desk_standing desk) ≡ false → (c : List ℕ) → Disk.image (desk_disk desk) c
        → Holds (desk_schema desk) (desk_world desk) (desk_user desk) (desk_header desk) (state_of desk) c)
        → Disk.tells → is_sealed fixed.standing ≡ false → (c : List ℕ) → Disk.image (desk_disk desk) c
        → Holds fixed.schema fixed.world fixed.user fixed.header (state_shown fixed pairs) c
    closed_images known t served c here =
        subst (λ (f : Fixed D). Holds f.schema f.world f.user f.header (state_shown f pairs) c) same
        (subst (λ (h : History).
        Holds (desk_schema desk) (desk_world desk) (desk_user desk) (desk_header desk) (shown h (standing_of (desk_standing desk)) (flying pairs)) c)
        entries
        (subst (λ (o : Option AnsweredQuery).
        Holds (desk_schema desk) (desk_world desk) (desk_user desk) (desk_header desk) (shown (desk_history desk) (standing_of (desk_standing desk)) o) c)
        flies (known t (closed_sealed ∙ served) c here)))

    pub closed_since : opening_count desk ≤ length (desk_history desk)
        → (Disk.tells → is_sealed (desk_standing desk) ≡ false → (c : List ℕ) → Disk.image_since (desk_disk desk) (Disk.moment (opening_disk desk)) c
        → OpensWithin (desk_schema desk) (desk_world desk) (desk_user desk) (desk_header desk) (opening_count desk)
        (desk_history desk ++ option_to_list (entry_in_flight desk)) c)
        → Disk.tells → is_sealed fixed.standing ≡ false → (c : List ℕ) → Disk.image_since (desk_disk desk) (Disk.moment fixed.disk) c
        → OpensWithin fixed.schema fixed.world fixed.user fixed.header (length fixed.opening) (history_of pairs ++ option_to_list (flying pairs)) c
    closed_since begins known t served c here =
        subst (λ (f : Fixed D). OpensWithin f.schema f.world f.user f.header (length f.opening) (history_of pairs ++ option_to_list (flying pairs)) c) same
        (subst (λ n. OpensWithin (desk_schema desk) (desk_world desk) (desk_user desk) (desk_header desk) n
        (history_of pairs ++ option_to_list (flying pairs)) c)
        (sym (length-take-le (opening_count desk) (desk_history desk) begins))
        (subst (λ (h : History). OpensWithin (desk_schema desk) (desk_world desk) (desk_user desk) (desk_header desk)
        (opening_count desk) (h ++ option_to_list (flying pairs)) c) entries
        (subst (λ (o : Option AnsweredQuery).
        OpensWithin (desk_schema desk) (desk_world desk) (desk_user desk) (desk_header desk) (opening_count desk)
        (desk_history desk ++ option_to_list o) c) flies
        (known t (closed_sealed ∙ served) c
        (subst (λ (f : Fixed D). Disk.image_since (desk_disk desk) (Disk.moment f.disk) c) (sym same) here)))))

    pub closed_cause : (is_broken_desk desk ≡ true → Rose (Disk.faults (opening_disk desk)) (Disk.faults (desk_disk desk))) → has_broke pairs ≡ true
        → Rose (Disk.faults fixed.disk) (Disk.faults (desk_disk desk))
    closed_cause known broke = subst (λ (f : Fixed D). Rose (Disk.faults f.disk) (Disk.faults (desk_disk desk))) same (known (closed_broke ∙ broke))

    -- where no append failed, the disk has grown for the entries alone
    pub closed_size : (Disk.tells → is_broken_desk desk ≡ false
        → IsNoLonger (Disk.reads (opening_disk desk)) (desk_history desk) (Disk.reads (desk_disk desk)))
        → Disk.tells → has_broke pairs ≡ false → IsNoLonger (Disk.reads fixed.disk) (history_of pairs) (Disk.reads (desk_disk desk))
    closed_size known t whole =
        subst (λ (f : Fixed D). IsNoLonger (Disk.reads f.disk) (history_of pairs) (Disk.reads (desk_disk desk))) same
        (subst (λ (h : History). IsNoLonger (Disk.reads (opening_disk desk)) h (Disk.reads (desk_disk desk))) entries (known t (closed_broke ∙ whole)))

  -- only a user who is served has entries, or one in flight
  pub closed_idle : (is_open (desk_standing desk) ≡ false → desk_history desk ≡ []) → (is_open (desk_standing desk) ≡ false → is_broken_desk desk ≡ false)
      → is_open fixed.standing ≡ false → (history_of pairs ≡ []) × (flying pairs ≡ None)
  closed_idle none idle closed =
      let shut : is_open (desk_standing desk) ≡ false = ap (λ (f : Fixed D). is_open f.standing) same ∙ closed in
      (sym entries ∙ none shut, sym flies ∙ none_flies (entry_in_flight desk) (idle shut))

  -- nothing was appended since the opening
  pub closed_still : opening_count desk ≤ length (desk_history desk)
      → (opening_count desk ≡ length (desk_history desk) → entry_in_flight desk ≡ None → desk_disk desk ≡ opening_disk desk)
      → length (history_of pairs) ≡ length fixed.opening → flying pairs ≡ None → desk_disk desk ≡ fixed.disk
  closed_still begins known count none =
      let whole : length fixed.opening ≡ opening_count desk =
      ap (λ (f : Fixed D). length f.opening) (sym same) ∙ length-take-le (opening_count desk) (desk_history desk) begins in
      known (sym (ap length entries ∙ count ∙ whole)) (flies ∙ none) ∙ ap (λ (f : Fixed D). f.disk) same
