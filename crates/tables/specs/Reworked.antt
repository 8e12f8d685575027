-- Rows reworked one after the other. No promise cites it.
use Rattle.std.specs.Prelude.{◌+◌, ◌++◌, ℕ, List, Result, Ok, Err}
use Rattle.retro_base.specs.declared.refusal.Refusal.{Refusal}
use Rattle.tables.specs.declared.contents.NumberedRow.{NumberedRow}

-- what was made of earlier rows, and then what is made of later ones
abbrev pub behind : List NumberedRow × ℕ → Result (List NumberedRow × ℕ) Refusal → Result (List NumberedRow × ℕ) Refusal
behind done (Ok more) = Ok (done.0 ++ more.0, done.1 + more.1)
behind done (Err why) = Err why
