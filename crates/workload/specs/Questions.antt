-- The asks of a workload.
use Rattle.std.specs.Prelude.{ℕ, ◌+◌, ◌*◌, ◌%◌, ◌==◌, List, ◌++◌, codes, decimal, if◌then◌else◌}
use Rattle.std.specs.List.{flat_map, range_with_len}
use Rattle.workload.specs.Draws.{drawn}
use Rattle.workload.specs.declared.question.Question.{Question}
use Rattle.workload.specs.declared.question.Question.TheVariants.{Drug, Has, Somebody, Everybody}
use Rattle.workload.specs.declared.question.Question.TheVariants.{Either, HasNot}

-- a relation of a person and a disease as text
abbrev pub illness_text : ℕ → ℕ → List ℕ
illness_text person disease =
    codes "has(p" ++ (decimal person ++ (codes ", d" ++ (decimal disease ++ codes ")")))

-- a question as text
abbrev pub question_text : Question → List ℕ
question_text (Drug person) = codes "drug(p" ++ (decimal person ++ codes ")")
question_text (Has person disease) = illness_text person disease
question_text (Somebody disease) =
    codes "exists x: person . has(x, d" ++ (decimal disease ++ codes ")")
question_text (Everybody disease) =
    codes "forall x: person . has(x, d" ++ (decimal disease ++ codes ") -> drug(x)")
question_text (Either person other disease) =
    codes "has(p" ++ (decimal person
    ++ (codes ", d" ++ (decimal disease
    ++ (codes ") or has(p"
    ++ (decimal other ++ (codes ", d" ++ (decimal disease ++ codes ")")))))))
question_text (HasNot person disease) =
    codes "not has(p" ++ (decimal person ++ (codes ", d" ++ (decimal disease ++ codes ")")))

-- the question of this form
abbrev pub question_of : ℕ → ℕ → ℕ → ℕ → Question
question_of form person other disease =
    if form == 0 then Drug person
    else if form == 1 then Has person disease
    else if form == 2 then Somebody disease
    else if form == 3 then Everybody disease
    else if form == 4 then Either person other disease
    else HasNot person disease

-- the question that four draws give, the first of which has this number
abbrev pub question_at : ℕ → ℕ → Question
question_at seed n =
    question_of (drawn seed n 6) (drawn seed (n + 1) 40) (drawn seed (n + 2) 40)
    (drawn seed (n + 3) 12)

-- the line of an ask: the users come in turn, each in his first session
abbrev pub ask_line : ℕ → Question → List ℕ
ask_line user question =
    codes "u" ++ (decimal user ++ (codes " 1 ask " ++ (question_text question ++ codes "\n")))

-- the lines of so many asks of so many users, whose draws begin at this number
unfoldable pub script_lines : ℕ → ℕ → ℕ → ℕ → List ℕ
script_lines seed start users asks =
    flat_map (λ t. ask_line (t % users) (question_at seed (start + 4 * t))) (range_with_len 0 asks)
