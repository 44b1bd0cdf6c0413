-- What becomes of what stands under a name: it isn't touched, its disk is only read, or a journal is made on it.
use Rattle.std.proofs.Common.{◌≡◌, ◌∙◌, sym, ap, subst, refl, List, ℕ, [], Option, Some, None, Result, Ok, Err, IfErr, OnOk, is_ok}
use Rattle.outside.proofs.Taken.{same_rests}
use Rattle.outside.specs.Shelf.{IsTaken, bytes_on, image_on}
use Rattle.outside.specs.declared.disk.Disk.{Ghosts as DiskGhosts}
use Rattle.init_engine.specs.Disks.{IsMade, IsMadeAt}
use Rattle.init_engine.specs.Stops.{OnlyReads, Stays, StaysAt}
use Rattle.init_engine.specs.declared.end.Stop.{Stop}
use Rattle.init_engine.specs.declared.end.Stop.TheVariants as stop

module _ {D : Type 0} (Disk : DiskGhosts D) where
  at_any_stop : (before after : Option D) → Stays Disk before after → (why : Stop) → StaysAt Disk before after why
  at_any_stop before after stays (stop.Refused why) = stays
  at_any_stop before after stays stop.DiskFault = λ some. stays
  at_any_stop before after stays stop.ShelfFault = stays
  at_any_stop before after stays stop.Memory = stays

  -- what stays does so wherever it stopped
  pub stays_where : {T : Type 0} (before after : Option D) (result : Result T Stop) → Stays Disk before after → IfErr result (StaysAt Disk before after)
  stays_where before after (Ok done) stays = tt
  stays_where before after (Err why) stays = at_any_stop before after stays why

  -- what wasn't touched stays
  pub untouched : ((d : D) (c : List ℕ) → Disk.image_since d (Disk.moment d) c → Disk.image d c) → (before after : Option D) → after ≡ before
      → Stays Disk before after
  untouched only_now before after same = record {
    bytes = ap (bytes_on Disk.reads) same;
    images = λ c left. subst (λ o. image_on Disk.image o c) same left;
    rests = same_rests Disk only_now before after same;
  }

  -- a disk that was only read stays
  pub read_stays : (before after : D) → OnlyReads Disk before after → Stays Disk (Some before) (Some after)
  read_stays before after only = record { bytes = only.reads; images = only.images; rests = only.moments }

  module _ {T E : Type 0} (header : List ℕ) (before after : D) where
    -- it is ready where it shows a journal as it was read last
    pub read_ready : (last : D) (result : Result T E) → Disk.reads last ≡ Disk.reads before → OnlyReads Disk before after
        → OnOk result (IsMade Disk header (Disk.reads last) after) → OnOk result (IsMadeAt Disk header (Some before) (Some after))
    read_ready last (Ok done) same only made =
        record { disk = after; stands = refl; made = subst (λ b. IsMade Disk header b after) same made; rests = λ some. only.moments }
    read_ready last (Err why) same only made = tt

    -- so is one without bytes on which a journal was made
    pub made_ready : {E' : Type 0} (result : Result T E) (end : Result T E') → is_ok end ≡ is_ok result → Disk.reads before ≡ []
        → OnOk result (IsMade Disk header [] after) → OnOk end (IsMadeAt Disk header (Some before) (Some after))
    made_ready (Ok done) (Ok value) same none made =
        record { disk = after; stands = refl; made = subst (λ b. IsMade Disk header b after) (sym none) made; rests = λ some. absurd (some none) }
    made_ready (Err why) (Ok value) same none made = absurd cc
    made_ready result (Err why) same none made = tt

  -- so is what stands under the name of a disk that was taken and given back
  pub held_ready : (header : List ℕ) (held new : Option D) (disk after : D) → IsTaken Disk.reads Disk.image held disk → new ≡ Some after
      → IsMadeAt Disk header (Some disk) (Some after) → IsMadeAt Disk header held new
  held_ready header (Some one) new disk after is back made =
      subst (λ o. IsMadeAt Disk header (Some one) o) (sym back) (subst (λ d. IsMadeAt Disk header (Some d) (Some after)) is made)
  held_ready header None new disk after is back made = record {
    disk = made.disk;
    stands = back ∙ made.stands;
    made = subst (λ b. IsMade Disk header b made.disk) is.0 made.made;
    rests = λ some. absurd (some refl);
  }
