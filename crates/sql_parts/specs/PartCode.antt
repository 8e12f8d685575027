-- A list of parts, as contracts see it.
use Rattle.std.specs.Prelude.{List}
use Rattle.std.specs.Coded.{Coded, coded_list}
use Rattle.sql_parts.specs.contracts.part.Part as the_part
use Rattle.sql_parts.specs.declared.part.Part.{Part}

-- parts are stored one by one
pub parts_code : Coded (List Part)
parts_code = coded_list the_part.the_row.coded
