-- What became of an item, by what is told of it.
use Rattle.std.specs.Prelude.{ℕ, List, Option, Some, None, Result, Ok, Err}
use Rattle.session.specs.Transacting.{text_told}
use Rattle.session.specs.declared.item.Done.{Done}
use Rattle.session.specs.declared.item.Done.TheVariants.{Told, CutShort}
use Rattle.session.specs.declared.result_table.ResultTable.{ResultTable}

-- its reply, with the result table that it leaves; nothing is told of one that was cut short
abbrev pub done_by : {E : Type 0} → Result (Option (List ℕ)) E → Option ResultTable → Result Done E
done_by (Ok (Some text)) table = Ok (Told text table)
done_by (Ok None) table = Ok CutShort
done_by (Err why) table = Err why

-- the same with the bytes of its reply as a list
abbrev pub as_told : {Text E : Type 0} → (Text → List ℕ) → Result (Option Text) E → Result (Option (List ℕ)) E
as_told bytes (Ok told) = Ok (text_told bytes told)
as_told bytes (Err why) = Err why
