-- What a file in the DIMACS format means, and where it is refused.
use Rattle.std.specs.Prelude.{ℕ, zero, suc, ◌+◌, ◌==◌, Bool, true, false, ◌&&◌, nat_le, nat_lt}
use Rattle.std.specs.Prelude.{if◌then◌else◌}
use Rattle.std.specs.Prelude.{List, [], ◌∷◌, ◌++◌, length, codes, bytes_eq}
use Rattle.std.specs.Prelude.{Option, Some, None, is_some, unwrap_or, Result, Ok, Err}
use Rattle.cqe_base.specs.Schema.{Text}
use Rattle.cqe_base.specs.Lines.{TextLine, text_lines, content, is_too_long}
use Rattle.cqe_base.specs.Literal.{Literal, Positive, Negative, union}
use Rattle.dimacs_text.specs.Words.{words, signed_number_in}
use Rattle.line_protocol.specs.Words.{number_in}
use Rattle.dimacs_text.specs.declared.words.SignedNumber.{SignedNumber}
use Rattle.dimacs_text.specs.declared.header.Header.{Header}
use Rattle.dimacs_text.specs.declared.refusal.RefusalKind.{RefusalKind}
use Rattle.dimacs_text.specs.declared.refusal.RefusalKind.TheVariants.{NotALine, TooLong, TooMany}
use Rattle.dimacs_text.specs.declared.refusal.RefusalKind.TheVariants.{Order}
use Rattle.dimacs_text.specs.declared.refusal.RefusalKind.TheVariants.{Limit, Variable, Surplus}
use Rattle.dimacs_text.specs.declared.refusal.RefusalKind.TheVariants.{Missing}
use Rattle.dimacs_text.specs.declared.refusal.DimacsRefusal.{DimacsRefusal}

-- what the lines so far have said
pub record Problem : Type 0 where
  -- the problem line's numbers of variables and of clauses
  pub header : Option Header
  pub budget : Option ℕ
  -- whether a refutation is to be printed
  pub lrat : Bool
  -- the clauses that are over, and the literals of one that isn't
  pub clauses : List (List Literal)
  pub unfinished : List Literal

-- no line has said anything
abbrev pub empty_problem : Problem
empty_problem = record { header = None; budget = None; lrat = false; clauses = []; unfinished = [] }

-- a problem, or the kind of its refusal
abbrev pub Step : Type 0
Step = Result Problem RefusalKind

-- what follows a step, unless it is refused
abbrev pub then_step : Step → (Problem → Step) → Step
then_step (Err kind) next = Err kind
then_step (Ok p) next = next p

-- ---- comments

-- the budget is said once, and is from 1 to 4,000,000
abbrev pub allow : Problem → Option ℕ → Step
allow p None = Err Limit
allow p (Some budget) =
    if is_some p.budget then Err Order
    else if nat_le 1 budget && nat_le budget 4000000 then Ok (record p { budget = Some budget })
    else Err Limit

-- `c budget N` and `c lrat` are options; every other comment says nothing
abbrev pub with_comment : Problem → List Text → Step
with_comment p (word ∷ []) =
    if bytes_eq word (codes "lrat") then Ok (record p { lrat = true }) else Ok p
with_comment p (word ∷ number ∷ []) =
    if bytes_eq word (codes "budget") then allow p (number_in number) else Ok p
with_comment p _ = Ok p

-- ---- the problem line

-- a problem line with these two numbers, where both are numbers
abbrev pub header_of : Option ℕ → Option ℕ → Option Header
header_of (Some variables) (Some clauses) =
    Some (record { variables = variables; clauses = clauses })
header_of _ _ = None

-- `cnf`, the number of variables and the number of clauses
abbrev pub header_in : List Text → Option Header
header_in (kind ∷ variables ∷ clauses ∷ []) =
    if bytes_eq kind (codes "cnf") then header_of (number_in variables) (number_in clauses)
    else None
header_in _ = None

-- the problem line stands once, and says at most 1,000,000 variables and as many clauses
abbrev pub with_header : Problem → Option Header → Step
with_header p None = Err NotALine
with_header p (Some header) =
    if is_some p.header then Err Order
    else if nat_le header.variables 1000000 && nat_le header.clauses 1000000
    then Ok (record p { header = Some header })
    else Err Limit

-- ---- clauses

-- the literal of a variable, or its negation
abbrev pub literal_of : Bool → ℕ → Literal
literal_of true variable = Negative variable
literal_of false variable = Positive variable

-- the clause is over; there are at most as many as the problem line says
abbrev pub close : ℕ → Problem → Step
close most p =
    if nat_lt (length p.clauses) most
    then Ok (record p { clauses = p.clauses ++ p.unfinished ∷ []; unfinished = [] })
    else Err Surplus

-- a literal that would stand twice in a clause is written once, in its first place
abbrev pub with_literal : Problem → Literal → Problem
with_literal p l = record p { unfinished = union p.unfinished (l ∷ []) }

-- 0 ends a clause; any other number is a literal, whose variable is at most that of the problem
-- line
abbrev pub with_number : Header → Problem → Bool → ℕ → Step
with_number header p is_negative zero = close header.clauses p
with_number header p is_negative (suc variable) =
    if nat_lt variable header.variables then Ok (with_literal p (literal_of is_negative variable))
    else Err Variable

-- numbers stand behind the problem line
abbrev pub with_signed_number : Option Header → Problem → SignedNumber → Step
with_signed_number None p signed = Err Order
with_signed_number (Some header) p signed = with_number header p signed.is_negative signed.number

-- a word of a line of numbers
abbrev pub with_number_word : Problem → Option SignedNumber → Step
with_number_word p None = Err NotALine
with_number_word p (Some signed) = with_signed_number p.header p signed

-- the numbers of a line, from left to right
abbrev pub with_numbers : Problem → List Text → Step
with_numbers p [] = Ok p
with_numbers p (word ∷ rest) =
    then_step (with_number_word p (signed_number_in word)) (λ next. with_numbers next rest)

-- ---- lines

-- whether a word begins with `c`
abbrev pub begins_comment : Text → Bool
begins_comment [] = false
begins_comment (b ∷ rest) = b == 99

-- a line's words: none, a comment, the problem line, or numbers
abbrev pub with_words : Problem → List Text → Step
with_words p [] = Ok p
with_words p (word ∷ rest) =
    if begins_comment word then (if length word == 1 then with_comment p rest else Ok p)
    else if bytes_eq word (codes "p") then with_header p (header_in rest)
    else with_numbers p (word ∷ rest)

-- the line of this number
abbrev pub with_line : ℕ → Problem → TextLine → Step
with_line number p line =
    if is_too_long line then Err TooLong
    else if nat_lt 1000000 number then Err TooMany
    else with_words p (words (content line))

-- ---- whole files

-- clauses over variables below a number, a budget, and whether a refutation is to be printed
pub record Cnf : Type 0 where
  pub variables : ℕ
  pub clauses : List (List Literal)
  pub budget : ℕ
  pub lrat : Bool

-- the clauses and options of a problem; where no budget is said it is 1,000,000
abbrev pub cnf_of : Problem → Header → Cnf
cnf_of p header =
    record {
      variables =
          header.variables;
      clauses = p.clauses;
      budget = unwrap_or p.budget 1000000;
      lrat = p.lrat;
    }

-- the file is over: there was a problem line, each clause is over, and there are as many as it says
abbrev pub finish : ℕ → Problem → Option Header → Result Cnf DimacsRefusal
finish number p None = Err (record { kind = Missing; line = number })
finish number p (Some header) =
    if length p.unfinished == 0 && length p.clauses == header.clauses then Ok (cnf_of p header)
    else Err (record { kind = Missing; line = number })

-- what follows a line, unless it is refused
abbrev pub then_lines : ℕ → Step → (Problem → Result Cnf DimacsRefusal) → Result Cnf DimacsRefusal
then_lines number (Err kind) rest = Err (record { kind = kind; line = number })
then_lines number (Ok p) rest = rest p

-- the lines from this number on, up to the first that is refused
abbrev pub cnf_after : ℕ → Problem → List TextLine → Result Cnf DimacsRefusal
cnf_after number p [] = finish number p p.header
cnf_after number p (line ∷ lines) =
    then_lines number (with_line number p line) (λ next. cnf_after (number + 1) next lines)

-- the clauses and options that bytes are, or the first line that is refused, with its kind; where
-- something is wanting at the end, that is the line behind the last
unfoldable pub cnf_in : List ℕ → Result Cnf DimacsRefusal
cnf_in bytes = cnf_after 1 empty_problem (text_lines bytes)
