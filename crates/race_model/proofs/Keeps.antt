-- Every step keeps what holds of a machine, and under it every image opens.
use Rattle.std.proofs.Common.{◌≡◌, ◌⊎◌, inl, inr, ◌≤◌, ◌∙◌, ℕ, suc, true, List, [], ◌∷◌, ◌++◌, map, sym, ap, arith, eqb}
use Rattle.std.specs.Prelude.{Contains}
use Rattle.std.proofs.lemmas.Bool.{or_left, or_right, eq-eqb}
use Rattle.history.specs.declared.entry.Mark.{Mark}
use Rattle.history.specs.declared.entry.Change.{Change}
use Rattle.history.specs.Marks.{is_retained}
use Rattle.history.specs.Writes.{is_among}
use Rattle.history.specs.Laws.{KeepsNewest}
use Rattle.history.specs.History.{now, with_change}
use Rattle.skippy.specs.Mappings.{end_of}
use Rattle.race_model.specs.Vault.{batch_end, enter_into}
use Rattle.race_model.specs.Fits.{BatchFits}
use Rattle.race_model.specs.Machine.{Machine, Step, Quiet, Changes, ChangeFails, TakesBatch, Acknowledges, WritesBack, WriteFails, Settles, Stops, CutsLog, CutFails, Lays, LayFails, Enters, EnterFails, Trims, TrimFails, Looks, LooksAtAll, Unlooks, Peeks, Run, Done, More, MayChange, acked_to, trimmed}
use Rattle.race_model.specs.Invariant.{ToldFits, Fits}
use Rattle.race_model.specs.Laws.{ApartOpen, ImagesOpen}
use Rattle.race_model.proofs.Histories.{keeps_newest}
use Rattle.race_model.proofs.Sending.{batch_fits}
use Rattle.race_model.proofs.Grows.{contains_cons, contains_none, all_at, all_map, vault_with, batch_with}
use Rattle.race_model.proofs.DeskKeeps.{change_keeps, change_failed_keeps, ack_keeps, stop_keeps, settle_keeps, write_keeps, write_failed_keeps, cut_keeps, cut_failed_keeps, desk_opens}
use Rattle.race_model.proofs.VaultKeeps.{trim_end, enter_end, trim_keeps, trim_failed_keeps, enter_keeps, enter_failed_keeps, lay_keeps, lay_failed_keeps, vault_holds}
use Rattle.race_model.proofs.Readings.{pin_with, told_with, told_up, told_fits}

contains_among : (x : ℕ) (xs : List ℕ) → Contains xs x → is_among x xs ≡ true
contains_among x [] is = absurd (contains_none x is)
contains_among x (y ∷ xs) is = elim (contains_cons y x xs is) [
  | inl e ↦ or_left (eqb y x) (is_among x xs) (eq-eqb y x (sym e))
  | inr later ↦ or_right (eqb y x) (is_among x xs) (contains_among x xs later)
]

contains_append : (x : ℕ) (xs ys : List ℕ) → Contains (xs ++ ys) x → Contains xs x ⊎ Contains ys x
contains_append x [] ys is = inr is
contains_append x (y ∷ xs) ys is = elim (contains_cons y x (xs ++ ys) is) [
  | inl e ↦ inl (0, omega arith, sym e)
  | inr later ↦ elim (contains_append x xs ys later) [ inl left ↦ inl (suc left.0, omega (arith, left.1), left.2) | inr right ↦ inr right ]
]

newest_left : (m : Machine) (change : Change) → MayChange m change → KeepsNewest (now m.desk.history).base change
newest_left m change may = keeps_newest (now m.desk.history).base change may.follows.right

pub step_keeps : (machine next : Machine) → Step machine next → Fits machine → Fits next
step_keeps m _ (Quiet _) f = f
step_keeps m _ (Changes _ change may) f = record {
  desk = change_keeps m.desk f.desk change may.goes may.follows;
  vault = vault_with m.desk.history m.desk.floor f.desk.history.consistent change (newest_left m change may) m.vault f.vault;
  order = f.order;
  batches = all_map (BatchFits m.desk.history) (BatchFits (with_change m.desk.history change)) m.batches (batch_with m.desk.history f.desk.history.consistent change (newest_left m change may)) f.batches;
  receipts = f.receipts;
  pins = λ pin is. pin_with m.desk.history f.desk.history.consistent change m.pins pin may.pins (λ below all. all_at (λ p. below ≤ p) m.pins pin all is) (f.pins pin is);
  told = all_map (ToldFits m.desk.history m.desk.acked) (ToldFits (with_change m.desk.history change) m.desk.acked) m.told
      (told_with m.desk.history f.desk.history.consistent change (newest_left m change may) m.desk.acked f.desk.pending) f.told;
}
step_keeps m _ (ChangeFails _ change may) f =
    record { desk = change_failed_keeps m.desk f.desk change may.follows; vault = f.vault; order = f.order; batches = f.batches; receipts = f.receipts; pins = f.pins; told = f.told }
step_keeps m _ (TakesBatch _ n may) f =
    record { desk = f.desk; vault = f.vault; order = f.order; batches = (batch_fits m.desk f.desk n may, f.batches); receipts = f.receipts; pins = f.pins; told = f.told }
step_keeps m _ (Acknowledges _ n is le) f = record {
  desk = ack_keeps m.desk f.desk n le;
  vault = f.vault;
  order = omega (arith, f.order, all_at (λ c. c ≤ end_of m.vault.mappings) m.receipts n f.receipts is);
  batches = f.batches;
  receipts = f.receipts;
  pins = f.pins;
  told = all_map (ToldFits m.desk.history m.desk.acked) (ToldFits m.desk.history (acked_to m.desk n).acked) m.told
      (told_up m.desk.history f.desk.history.consistent m.desk.acked (acked_to m.desk n).acked (omega arith)) f.told;
}
step_keeps m _ (WritesBack _ page need may) f =
    record { desk = write_keeps m.desk f.desk page need may; vault = f.vault; order = f.order; batches = f.batches; receipts = f.receipts; pins = f.pins; told = f.told }
step_keeps m _ (WriteFails _ page need left may) f =
    record { desk = write_failed_keeps m.desk f.desk page need left may; vault = f.vault; order = f.order; batches = f.batches; receipts = f.receipts; pins = f.pins; told = f.told }
step_keeps m _ (Settles _ goes) f = record { desk = settle_keeps m.desk f.desk goes; vault = f.vault; order = f.order; batches = f.batches; receipts = f.receipts; pins = f.pins; told = f.told }
step_keeps m _ (Stops _) f = record { desk = stop_keeps m.desk f.desk; vault = f.vault; order = f.order; batches = f.batches; receipts = f.receipts; pins = f.pins; told = f.told }
step_keeps m _ (CutsLog _ may) f = record { desk = cut_keeps m.desk f.desk may; vault = f.vault; order = f.order; batches = f.batches; receipts = f.receipts; pins = f.pins; told = f.told }
step_keeps m _ (CutFails _ may) f = record { desk = cut_failed_keeps m.desk f.desk may; vault = f.vault; order = f.order; batches = f.batches; receipts = f.receipts; pins = f.pins; told = f.told }
step_keeps m _ (Lays _ batch slots loose is goes may outside put) f = record {
  desk = f.desk;
  vault = lay_keeps m.desk.history m.desk.floor m.vault f.vault batch (all_at (BatchFits m.desk.history) m.batches batch f.batches is) slots loose goes may outside put;
  order = f.order;
  batches = f.batches;
  receipts = f.receipts;
  pins = f.pins;
  told = f.told;
}
step_keeps m _ (LayFails _ batch slots loose is goes may outside) f = record {
  desk = f.desk;
  vault = lay_failed_keeps m.desk.history m.desk.floor m.vault f.vault batch (all_at (BatchFits m.desk.history) m.batches batch f.batches is) slots loose goes may outside;
  order = f.order;
  batches = f.batches;
  receipts = f.receipts;
  pins = f.pins;
  told = f.told;
}
step_keeps m _ (Enters _ batch is goes may) f =
    let fits : BatchFits m.desk.history batch = all_at (BatchFits m.desk.history) m.batches batch f.batches is in
    let ends : end_of (enter_into m.vault.mappings batch) ≡ batch_end batch = enter_end m.desk.history m.desk.floor m.vault.mappings batch fits may.first in
    record {
      desk = f.desk;
      vault = enter_keeps m.desk.history m.desk.floor m.vault f.vault batch fits goes may;
      order = omega (arith, f.order, ends, may.first);
      batches = f.batches;
      receipts = (omega (arith, ends), all_map (λ c. c ≤ end_of m.vault.mappings) (λ c. c ≤ end_of (enter_into m.vault.mappings batch)) m.receipts (λ c le. omega (arith, le, ends, may.first)) f.receipts);
      pins = f.pins;
      told = f.told;
    }
step_keeps m _ (EnterFails _ batch is goes may) f = record {
  desk = f.desk;
  vault = enter_failed_keeps m.desk.history m.desk.floor m.vault f.vault batch (all_at (BatchFits m.desk.history) m.batches batch f.batches is) may;
  order = f.order;
  batches = f.batches;
  receipts = f.receipts;
  pins = f.pins;
  told = f.told;
}
step_keeps m _ (Trims _ low goes may) f =
    let ends : end_of (trimmed m.vault low).mappings ≡ end_of m.vault.mappings = trim_end m.vault.mappings low may.held in
    record {
      desk = f.desk;
      vault = trim_keeps m.desk.history m.desk.floor m.vault f.vault low goes may;
      order = omega (arith, f.order, ends);
      batches = f.batches;
      receipts = all_map (λ c. c ≤ end_of m.vault.mappings) (λ c. c ≤ end_of (trimmed m.vault low).mappings) m.receipts (λ c le. omega (arith, le, ends)) f.receipts;
      pins = f.pins;
      told = f.told;
    }
step_keeps m _ (TrimFails _ low goes may) f =
    record { desk = f.desk; vault = trim_failed_keeps m.desk.history m.desk.floor m.vault f.vault low may; order = f.order; batches = f.batches; receipts = f.receipts; pins = f.pins; told = f.told }
step_keeps m _ (Looks _ snapshot retained) f = record {
  desk = f.desk;
  vault = f.vault;
  order = f.order;
  batches = f.batches;
  receipts = f.receipts;
  pins = λ pin is. elim (contains_cons snapshot pin m.pins is) [ inl e ↦ ap (λ n. is_retained n (now m.desk.history).base.marks) e ∙ retained | inr had ↦ f.pins pin had ];
  told = f.told;
}
step_keeps m _ (LooksAtAll _) f = record {
  desk = f.desk;
  vault = f.vault;
  order = f.order;
  batches = f.batches;
  receipts = f.receipts;
  pins = λ pin is. elim (contains_append pin (map (λ (mark : Mark). mark.number) (now m.desk.history).base.marks) m.pins is) [
    | inl retained ↦ contains_among pin (map (λ (mark : Mark). mark.number) (now m.desk.history).base.marks) retained
    | inr had ↦ f.pins pin had
  ];
  told = f.told;
}
step_keeps m _ (Unlooks _ pins left) f = record { desk = f.desk; vault = f.vault; order = f.order; batches = f.batches; receipts = f.receipts; pins = λ pin is. f.pins pin (left pin is); told = f.told }
step_keeps m _ (Peeks _ snapshot page is) f =
    record { desk = f.desk; vault = f.vault; order = f.order; batches = f.batches; receipts = f.receipts; pins = f.pins; told = (told_fits m.desk f.desk.history snapshot page (f.pins snapshot is), f.told) }

pub run_keeps : (first last : Machine) → Run first last → Fits first → Fits last
run_keeps m _ Done f = f
run_keeps m last (More {next = next} step run) f = run_keeps next last run (step_keeps m next step f)

pub apart_open : ApartOpen
apart_open desk vault version contents f fits enough is_log are_pages is_maplog are_slots =
    let held = vault_holds desk.history desk.floor vault fits (record { version = version; mappings = contents.mappings }) contents.slots is_maplog are_slots in
    desk_opens desk f contents is_log are_pages (record { mapped = held.mapped; enough = omega (arith, held.enough, enough); filled = held.filled })

pub images_open : ImagesOpen
images_open m contents f images = apart_open m.desk m.vault images.version contents f.desk f.vault (omega (arith, f.desk.needed, f.order)) images.log images.pages images.maplog images.slots
