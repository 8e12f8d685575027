-- How many pages one more entry opens.
use Rattle.std.proofs.Common.{◌≡◌, ◌<◌, ◌≤◌, ◌++◌, ◌∙◌, Bool, true, false, cond, List, ◌∷◌, length, ap, subst, arith}
use Rattle.std.specs.List.{AllByRecursion}
use Rattle.std.proofs.lemmas.Bool.{le-leb}
use Rattle.pager.specs.Index.{IsFound}
use Rattle.pager.specs.declared.index.Found.{Found}
use Rattle.index_page.specs.Entries.{entry_inserted}
use Rattle.index_page.specs.IndexPage.{HaveRoom, AreWritable, have_room, width}
use Rattle.index_page.proofs.Halving.{four_fit}
use Rattle.index_page.proofs.Ordered.{inserted-all}
use Rattle.index_page.proofs.Placing.{inserted-length}
use Rattle.run_index.specs.Opens.{OpensFew}
use Rattle.run_index.specs.Run.{IsShape, opens, target}
use Rattle.run_index.specs.Shaping.{all-right, fits-any_page, target-is, targeted}

at-most : (b : Bool) → cond b 0 1 ≤ 1
at-most true = omega arith
at-most false = omega arith

none-of : (entry : Found) (shape : List (List Found)) → IsShape shape → IsFound entry → length (target entry shape) < 4 → opens entry.value entry.number shape ≡ 0
none-of entry shape is found few =
    let t = targeted entry shape is.some in
    let low : Found = record { value = entry.value; number = entry.number; page = 0 } in
    let here : IsShape (t.before ++ t.page ∷ t.behind) = subst IsShape t.whole is in
    let writable : AreWritable t.page = (all-right AreWritable t.before (t.page ∷ t.behind) here.writable).0 in
    let aim : target entry shape ≡ t.page = ap (target entry) t.whole ∙ target-is entry t.before t.page t.behind t.skips t.stops in
    let same : target low shape ≡ t.page = ap (target low) t.whole ∙ target-is low t.before t.page t.behind t.skips t.stops in
    let lawful : AllByRecursion IsFound (entry_inserted entry t.page) = inserted-all IsFound entry t.page found writable.lawful in
    let fit : HaveRoom (entry_inserted entry t.page) = four_fit (entry_inserted entry t.page) lawful (omega (arith, inserted-length entry t.page, ap length aim, few)) in
    ap (λ (page : List Found). cond (have_room (entry_inserted low page)) 0 1) same ∙ ap (λ (b : Bool). cond b 0 1) (fits-any_page entry t.page ∙ le-leb (width (entry_inserted entry t.page)) 1016 fit)

pub opens_few : OpensFew
opens_few = record {
  at_most_one = λ value number shape. let low : Found = record { value = value; number = number; page = 0 } in at-most (have_room (entry_inserted low (target low shape)));
  none_of_three = none-of;
}
