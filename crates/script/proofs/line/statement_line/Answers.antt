use Rattle.std.proofs.Common.{◌≡◌, ◌∙◌, ap}
use Rattle.sql_text.proofs.Lexing.{stand_in_line}
use Rattle.script.proofs.OneLine.{parsed_is, parsed_only, refused_is, refused_only, short_before}
use Rattle.script.specs.Class.{class_of}
use Rattle.script.specs.Line.{text_places}
use Rattle.script.proofs.line.statement_line.Goals as goal

pub text_places-requires : goal.text_places-requires
text_places-requires c =
    let lexed = c.in_ok-lexed.lexed in
    rw c.as_slice-2.ensures (short_before c.args.text.now lexed.tokens (stand_in_line c.args.text.now lexed.tokens lexed.ending c.in_ok-lexed.ensures).0 c.requires)

pub returns-in-Ok-clause-found : goal.returns-in-Ok-clause-found
returns-in-Ok-clause-found c =
    let lexed = c.in_ok-lexed.lexed in
    parsed_is c.args.text.now lexed.tokens lexed.ending _ c.in-Ok.parsed _ c.in_ok-lexed.ensures (c.in_ok-places.ensures ∙ ap text_places c.as_slice-2.ensures) c.parsed_line.ensures.found c.in-Ok.ensures.found

pub returns-in-Ok-clause-only : goal.returns-in-Ok-clause-only
returns-in-Ok-clause-only c =
    let lexed = c.in_ok-lexed.lexed in
    parsed_only c.one_reading.ensures c.broken_lines_say_nothing.ensures c.args.text.now lexed.tokens lexed.ending _ c.in-Ok.parsed _ c.in_ok-lexed.ensures (c.in_ok-places.ensures ∙ ap text_places c.as_slice-2.ensures)
    c.parsed_line.ensures.found c.in-Ok.ensures.found c.in-Ok.ensures.only

pub returns-in-Err-Syntax-clause-found : goal.returns-in-Err-Syntax-clause-found
returns-in-Err-Syntax-clause-found c =
    let lexed = c.in_ok-lexed.lexed in
    let class : c.class_of-class.result ≡ class_of c.args.text.now lexed.tokens = cc in
    refused_is c.args.text.now lexed.tokens lexed.ending c.in-Err-Syntax.place _ _ c.in_ok-lexed.ensures class (rw c.in-Err-Syntax.field-0-is at c.refused_line.ensures.found) (rw c.in-Err-Syntax.field-0-is at c.in-Err-Syntax.ensures.refused)

pub returns-in-Err-Syntax-clause-only : goal.returns-in-Err-Syntax-clause-only
returns-in-Err-Syntax-clause-only c =
    let lexed = c.in_ok-lexed.lexed in
    let class : c.class_of-class.result ≡ class_of c.args.text.now lexed.tokens = cc in
    refused_only c.one_reading.ensures c.broken_lines_say_nothing.ensures c.lines_break_at_one_place.ensures c.args.text.now lexed.tokens lexed.ending c.in-Err-Syntax.place _ _ c.in_ok-lexed.ensures class
    (rw c.in-Err-Syntax.field-0-is at c.refused_line.ensures.found) (rw c.in-Err-Syntax.field-0-is at c.in-Err-Syntax.ensures.refused)
