use Rattle.std.proofs.Common.{◌≡◌, ◌∙◌, ◌∷◌, [], List, Option, ap, arith, rules, subst}
use Rattle.std.specs.List.{position_or_len}
use Rattle.indexmap.specs.IndexSet.{insert_key}
use Rattle.sql_select.specs.Same.{same_row}
use Rattle.rql.specs.Groups.{IsGroup}
use Rattle.rql.specs.Table.{key_of}
use Rattle.rql.specs.declared.function.Function.{Function}
use Rattle.rql.proofs.GroupFolds.{begins, joins}
use Rattle.rql.proofs.groups.Groups.add.Goals as goal

pub returns-then-place-len : goal.returns-then-place-len
returns-then-place-len g c = λ functions rows are.
    let kept = c.args.self.now in
    let key : c.new.result ≡ key_of c.args.self.now.functions.items c.args.row.now = search rules in
    joins functions c.args.row.now rows kept.functions.items kept.keys.keys kept.groups.items c.insert_full.new.self.keys c.in_ok-place.place are
    (c.in_ok-place.ensures.keys ∙ ap (λ k. insert_key same_row c.args.self.now.keys.keys k) key) c.in_ok-place.ensures.unique
    (c.in_ok-place.ensures.index ∙ ap (λ k. position_or_len (same_row k) c.args.self.now.keys.keys) key)
    c.index_mut.result.now c.add.new.self (omega arith) c.index_mut.ensures.value c.in_ok-add.ensures

pub returns : goal.returns
returns g c = λ functions rows are.
    let kept = c.args.self.now in
    let key : c.new.result ≡ key_of c.args.self.now.functions.items c.args.row.now = search rules in
    let same : c.deref-2.result.now ≡ c.args.self.now.functions.items = search rules in
    let Begun : List (Option Function) → Type 0 = λ fs. IsGroup fs c.in_ok-group.group (c.args.row.now ∷ []) in
    begins functions c.args.row.now rows kept.functions.items kept.keys.keys kept.groups.items c.insert_full.new.self.keys c.in_ok-place.place are
    (c.in_ok-place.ensures.keys ∙ ap (λ k. insert_key same_row c.args.self.now.keys.keys k) key) c.in_ok-place.ensures.unique
    (c.in_ok-place.ensures.index ∙ ap (λ k. position_or_len (same_row k) c.args.self.now.keys.keys) key)
    c.in_ok-group.group c.push.new.self.items (omega arith) (subst Begun same c.in_ok-group.ensures) c.in_ok-push.ensures.items
