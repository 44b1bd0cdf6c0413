-- The lines that are heard, one after the other.
use Rattle.std.proofs.Common.{◌≡◌, ℕ, zero, suc, ◌≤◌, ◌<◌, Bool, true, false, not, ◌&&◌, List, [], ◌∷◌, ◌++◌, length, take, refl, sym, ap, ◌∙◌, append_assoc}
use Rattle.std.proofs.Common.{arith}
use Rattle.std.specs.Prelude.{if◌then◌else◌}
use Rattle.std.specs.List.{list_all}
use Rattle.std.proofs.lemmas.List.{append-nil, length-append, take_all, take_at}
use Rattle.cqe_base.specs.Lines.{TextLine, text_lines, content}
use Rattle.line_protocol.specs.Reads.{TakesLine, BeginsTooLong}
use Rattle.line_protocol.specs.Requests.{LineRequest, login_as, ask_for, list_for, quit_session, other_line, request_of}
use Rattle.session_core.specs.Heard.{HeardLine, heard, overlong, is_quit, goes_on, heard_as, heard_lines, session_lines}
use Rattle.session_core.specs.Sessions.{Hears}
use Rattle.session_core.specs.declared.session.Ended.TheVariants.{Quit, InputEnd, TooLong, TooMany, ReadFault, WriteFault}

-- These lines were heard of the bytes, the session went on behind each, and these bytes are left.
pub record HeardSoFar (bytes left : List ℕ) (lines : List HeardLine) : Type 0 where
  pub whole : heard_lines (text_lines bytes) ≡ lines ++ heard_lines (text_lines left)
  pub on : list_all goes_on lines ≡ true

-- before the first
pub heard_none : (bytes : List ℕ) → HeardSoFar bytes bytes []
heard_none bytes = record { whole = refl; on = refl }

-- a request that ends a session is one to quit
quits : (request : LineRequest) → is_quit request ≡ true → request ≡ quit_session
quits (login_as user phrase) is = absurd cc
quits (ask_for text) is = absurd cc
quits (list_for count text) is = absurd cc
quits quit_session is = refl
quits other_line is = absurd cc

all_more : (lines : List HeardLine) (line : HeardLine) → list_all goes_on lines ≡ true → goes_on line ≡ true → list_all goes_on (lines ++ line ∷ []) ≡ true
all_more [] line all is = ap (λ b. b && true) is
all_more (l ∷ lines) line all is = by (goes_on l) refl (λ rest. all_more lines line rest is)
  where
    by : (t : Bool) → goes_on l ≡ t → (list_all goes_on lines ≡ true → list_all goes_on (lines ++ line ∷ []) ≡ true)
        → (goes_on l && list_all goes_on (lines ++ line ∷ [])) ≡ true
    by true e deep = ap (λ b. b && list_all goes_on (lines ++ line ∷ [])) e ∙ deep (sym (ap (λ b. b && list_all goes_on lines) e) ∙ all)
    by false e deep = let never : false ≡ true = sym (ap (λ b. b && list_all goes_on lines) e) ∙ all in absurd cc

-- the line that was taken, as it is heard
heard_taken : (before after line : List ℕ) (takes : TakesLine before after line)
    → heard_lines (text_lines before) ≡ heard line ∷ (if goes_on (heard line) then heard_lines (text_lines after) else [])
heard_taken before after line takes =
    let shown : heard_as takes.first ≡ heard line = ap (λ b. if b then overlong else heard (content takes.first)) takes.fits ∙ ap heard (sym takes.says) in
    ap heard_lines takes.lines ∙ ap (λ l. l ∷ (if goes_on l then heard_lines (text_lines after) else [])) shown

-- the first lines of all are the first that a session hears
some_front : (bytes : List ℕ) (lines rest : List HeardLine) → length lines ≤ 100000 → heard_lines (text_lines bytes) ≡ lines ++ rest → (more : List HeardLine)
    × (session_lines bytes ≡ lines ++ more)
some_front bytes lines rest few whole = front 100000 lines rest few (ap (take 100000) whole)
  where
    cut_front : (n : ℕ) (lines rest : List HeardLine) → length lines ≤ n → (more : List HeardLine) × (take n (lines ++ rest) ≡ lines ++ more)
    cut_front n [] rest few = (take n rest, refl)
    cut_front zero (l ∷ lines) rest few = absurd (omega (arith, few))
    cut_front (suc n) (l ∷ lines) rest few = let deep = cut_front n lines rest (omega (arith, few)) in (deep.0, ap (λ ls. l ∷ ls) deep.1)

    front : (n : ℕ) (lines rest : List HeardLine) → length lines ≤ n → session_lines bytes ≡ take n (lines ++ rest) → (more : List HeardLine)
        × (session_lines bytes ≡ lines ++ more)
    front n lines rest few is = let deep = cut_front n lines rest few in (deep.0, is ∙ deep.1)

module _ (bytes before after line : List ℕ) (lines : List HeardLine) (so_far : HeardSoFar bytes before lines) (takes : TakesLine before after line) where
  -- one more, behind which the session goes on
  pub heard_more : is_quit (request_of line) ≡ false → HeardSoFar bytes after (lines ++ heard line ∷ [])
  heard_more goes = record {
    whole = so_far.whole
        ∙ ap (λ ls. lines ++ ls) (heard_taken before after line takes ∙ ap (λ b. heard line ∷ (if not b then heard_lines (text_lines after) else [])) goes)
        ∙ sym (append_assoc lines (heard line ∷ []) (heard_lines (text_lines after)));
    on = all_more lines (heard line) so_far.on (ap not goes);
  }

  -- one more, which ends the session
  heard_last : is_quit (request_of line) ≡ true → heard_lines (text_lines bytes) ≡ lines ++ heard line ∷ []
  heard_last ends =
      so_far.whole ∙ ap (λ ls. lines ++ ls) (heard_taken before after line takes
      ∙ ap (λ b. heard line ∷ (if not b then heard_lines (text_lines after) else [])) ends)

  pub hears_quit : length lines < 100000 → is_quit (request_of line) ≡ true → Hears Quit bytes (lines ++ heard line ∷ [])
  hears_quit few ends =
      let many = length-append lines (heard line ∷ []) in (
        sym (take_all 100000 (lines ++ heard line ∷ []) (omega (arith, many, few))) ∙ ap (take 100000) (sym (heard_last ends)),
        lines,
        line,
        refl,
        quits (request_of line) ends,
      )

  -- one more, whose reply failed
  pub hears_cut : length lines < 100000 → Hears WriteFault bytes (lines ++ heard line ∷ [])
  hears_cut few =
      let many = length-append lines (heard line ∷ []) in
      let rest = if goes_on (heard line) then heard_lines (text_lines after) else [] in
      some_front bytes (lines ++ heard line ∷ []) rest (omega (arith, many, few)) (so_far.whole ∙ ap (λ ls. lines ++ ls) (heard_taken before after line takes)
      ∙ sym (append_assoc lines (heard line ∷ []) rest))

-- where the session goes on behind all lines that are heard, these are all lines
as_many : (ls : List TextLine) → list_all goes_on (heard_lines ls) ≡ true → length (heard_lines ls) ≡ length ls
as_many [] on = refl
as_many (l ∷ ls) on = by (goes_on (heard_as l)) refl (as_many ls)
  where
    by : (t : Bool) → goes_on (heard_as l) ≡ t → (list_all goes_on (heard_lines ls) ≡ true → length (heard_lines ls) ≡ length ls)
        → length (heard_lines (l ∷ ls)) ≡ length (l ∷ ls)
    by true e deep =
        ap (λ b. suc (length (if b then heard_lines ls else []))) e
        ∙ ap suc (deep (sym (ap (λ b. b && list_all goes_on (if b then heard_lines ls else [])) e) ∙ on))
    by false e deep = let never : false ≡ true = sym (ap (λ b. b && list_all goes_on (if b then heard_lines ls else [])) e) ∙ on in absurd cc

module _ (bytes left : List ℕ) (lines : List HeardLine) (so_far : HeardSoFar bytes left lines) where
  pub hears_fault : length lines < 100000 → Hears ReadFault bytes lines
  hears_fault few = some_front bytes lines (heard_lines (text_lines left)) (omega (arith, few)) so_far.whole

  pub hears_many : length lines ≡ 100000 → Hears TooMany bytes lines
  hears_many many = (sym (take_at lines (heard_lines (text_lines left)) 100000 many) ∙ ap (take 100000) (sym so_far.whole), so_far.on)

  pub hears_end : length lines < 100000 → left ≡ [] → Hears InputEnd bytes lines
  unfolding text_lines
  hears_end few none =
      let all : heard_lines (text_lines bytes) ≡ lines = so_far.whole ∙ ap (λ l. lines ++ heard_lines (text_lines l)) none ∙ append-nil lines in (
        sym (take_all 100000 lines (omega (arith, few))) ∙ ap (take 100000) (sym all),
        so_far.on,
        sym (ap length all) ∙ as_many (text_lines bytes) (ap (list_all goes_on) all ∙ so_far.on),
      )

  long_last : BeginsTooLong left → heard_lines (text_lines bytes) ≡ lines ++ overlong ∷ []
  long_last begins =
      let shown : heard_as begins.first ≡ overlong = ap (λ b. if b then overlong else heard (content begins.first)) begins.too_long in
      so_far.whole ∙ ap (λ ls. lines ++ ls) (ap heard_lines begins.lines ∙ ap (λ l. l ∷ (if goes_on l then heard_lines begins.rest else [])) shown)

  pub hears_long : length lines < 100000 → BeginsTooLong left → Hears TooLong bytes (lines ++ overlong ∷ [])
  hears_long few begins =
      let many = length-append lines (overlong ∷ []) in
      (sym (take_all 100000 (lines ++ overlong ∷ []) (omega (arith, many, few))) ∙ ap (take 100000) (sym (long_last begins)), lines, refl)

  pub hears_long_cut : length lines < 100000 → BeginsTooLong left → Hears WriteFault bytes (lines ++ overlong ∷ [])
  hears_long_cut few begins =
      let many = length-append lines (overlong ∷ []) in
      some_front bytes (lines ++ overlong ∷ []) [] (omega (arith, many, few)) (long_last begins ∙ sym (append-nil (lines ++ overlong ∷ [])))
