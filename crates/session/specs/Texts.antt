-- The texts of replies.
use Rattle.std.specs.Prelude.{◌++◌, ℕ, List, codes, length}
use Rattle.std.specs.Fmt.{decimal}
use Rattle.sql_select.specs.declared.answer.Answer.{Answer}
use Rattle.tables.specs.declared.reply.Reply.{Reply}
use Rattle.tables.specs.declared.reply.Reply.TheVariants.{Plain, Count, Rows}
use Rattle.session.specs.Line.{line}
use Rattle.session.specs.Rows.{row_lines}

-- a value of a refusal, behind a blank
abbrev pub value_text : ℕ → List ℕ
value_text value = codes " " ++ decimal value

-- the rows of an answer: how many, and each of them
abbrev pub answer_text : Answer → List ℕ
answer_text answer = line (codes "rows " ++ decimal (length answer.rows)) ++ row_lines answer.rows

-- the reply of a statement
abbrev pub reply_text : Reply → List ℕ
reply_text Plain = line (codes "ok")
reply_text (Count count) = line (codes "ok " ++ decimal count)
reply_text (Rows answer) = answer_text answer
