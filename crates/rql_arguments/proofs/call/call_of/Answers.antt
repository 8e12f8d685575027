use Rattle.std.proofs.Common.{◌≡◌, ◌∙◌, sym, refl}
use Rattle.rql_arguments.proofs.CallLaws.{first_outside, fourth_outside, one_call, result_is_name, second_outside, third_outside}
use Rattle.rql_arguments.proofs.call.call_of.Goals as goal

pub returns-in-None-clause-refused : goal.returns-in-None-clause-refused
returns-in-None-clause-refused c =
    rw c.outside.ensures (0, first_outside c.args.call.now (rw (c.in-None.is, c.as_slice.ensures) at c.in_ok-query.ensures), refl)

pub returns-in-None-2-clause-refused : goal.returns-in-None-2-clause-refused
returns-in-None-2-clause-refused c =
    let listed = rw (c.in-Some.is, c.as_slice.ensures) at c.in_ok-query.ensures in
    rw c.outside-in-None-2.ensures (1, second_outside c.args.call.now c.in-Some.query listed.0 (rw (c.in-None-2.is, c.as_slice-2.ensures) at c.in_ok-query-2.ensures), refl)

pub returns-then-not-is_result_word-clause-refused : goal.returns-then-not-is_result_word-clause-refused
returns-then-not-is_result_word-clause-refused c =
    let listed = rw (c.in-Some.is, c.as_slice.ensures) at c.in_ok-query.ensures in
    let asked = rw (c.in-Some-2.is, c.as_slice-2.ensures) at c.in_ok-query-2.ensures in
    rw c.outside-then-not-is_result_word.ensures
    (2, third_outside c.args.call.now c.in-Some.query c.in-Some-2.query listed.0 asked.0 (sym (rw c.as_slice-3.ensures at c.is_result_word.ensures) ∙ c.if-not-is_result_word.true), refl)

pub new-table-requires : goal.new-table-requires
new-table-requires c = rw c.in_ok-copy.ensures (result_is_name c.args.call.now.table (sym (rw c.as_slice-3.ensures at c.is_result_word.ensures) ∙ c.if-not-is_result_word.false))

pub returns-in-Some-3-clause-only : goal.returns-in-Some-3-clause-only
returns-in-Some-3-clause-only c =
    let listed = rw (c.in-Some.is, c.as_slice.ensures) at c.in_ok-query.ensures in
    let asked = rw (c.in-Some-2.is, c.as_slice-2.ensures) at c.in_ok-query-2.ensures in
    let combined = rw c.in-Some-3.is at c.in_ok-combination.ensures in
    one_call c.args.call.now c.in-Some.query c.in-Some-2.query c.new-table.result c.in-Some-3.combination listed asked (c.new-table.ensures ∙ c.in_ok-copy.ensures) combined

pub returns-in-None-3-clause-refused : goal.returns-in-None-3-clause-refused
returns-in-None-3-clause-refused c =
    let listed = rw (c.in-Some.is, c.as_slice.ensures) at c.in_ok-query.ensures in
    let asked = rw (c.in-Some-2.is, c.as_slice-2.ensures) at c.in_ok-query-2.ensures in
    let none = rw c.in-None-3.is at c.in_ok-combination.ensures in
    rw c.outside-in-None-3.ensures (
      3,
      fourth_outside c.args.call.now c.in-Some.query c.in-Some-2.query listed.0 asked.0 (sym (rw c.as_slice-3.ensures at c.is_result_word.ensures) ∙ c.if-not-is_result_word.false) none,
      refl,
    )
