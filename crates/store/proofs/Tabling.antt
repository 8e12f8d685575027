-- A new table of a snapshot that was just looked at.
use Rattle.std.proofs.Common.{◌≡◌, ◌∙◌, ◌-◌, ◌++◌, ℕ, List, [], ◌∷◌, drop, filter, take, Result, Ok, Err, sym, ap, subst, arith}
use Rattle.std.specs.Prelude.{IfOk, is_none}
use Rattle.atomic_table.specs.Seated.{TableId}
use Rattle.disk_model.specs.Disk.{State}
use Rattle.retro_base.specs.declared.refusal.Refusal.{Refusal}
use Rattle.retro_base.specs.declared.who.Who.{Who}
use Rattle.history.specs.declared.entry.Base.{Base}
use Rattle.history.specs.declared.journal.Line.{Line}
use Rattle.history.specs.declared.journal.What.TheVariants as whats
use Rattle.history.specs.History.{History}
use Rattle.history.specs.Journal.{after_journal}
use Rattle.history.specs.Lines.{base_of}
use Rattle.history.specs.Marks.{start_of}
use Rattle.history.proofs.Lines.{base_of_one_more}
use Rattle.skippy.specs.Mappings.{Mappings, first_in, first_mappings, numbered}
use Rattle.store_core.proofs.Cores.{base_is}
use Rattle.txn_set.specs.declared.ledger.Ledger.{Ledger}
use Rattle.txn_set.specs.Ledger.{line_of}
use Rattle.turn.specs.Seats.{seen}
use Rattle.store.specs.declared.desk_side.DeskSide.{DeskSide}
use Rattle.store.specs.declared.start.Start.{Start}
use Rattle.store.specs.Calls.{LookDoes}
use Rattle.store.specs.Past.{IsTableIn, IsTableOf, all_mapped, new_table}
use Rattle.store.specs.Seats.{Sat, Visited, journal}
use Rattle.store.specs.Start.{opened_base}
use Rattle.store.proofs.Adding.{given_lines}
use Rattle.store.proofs.Finding.{some_is}

-- nothing is mapped in an empty range
none_mapped : (m : Mappings) (from : ℕ) → [] ≡ first_mappings m from from
none_mapped m from =
    let none : from - from ≡ 0 = omega arith in
    sym (ap (λ k. filter (λ (e : ℕ × ℕ). is_none (first_in m from e.1 e.0)) (numbered from (take k (drop (from - m.low) m.pages)))) none)

table_in : (history : History) (start : ℕ) → IsTableIn history (new_table start)
table_in history start = record { met = record { above = omega arith; entries = none_mapped (all_mapped history) start }; within = omega arith }

module _ {D : Type 0} (is_honest : D → Type 0) (state : D → State) (faults : D → ℕ) (z : TableId) (s0 s2 : Sat D) (d0 d1 : DeskSide D) (v : Visited is_honest state faults z s0 s2 d0 d1) where
  -- a new table of a snapshot whose start was asked
  pub glanced_table : (n start : ℕ) → d1.core.ledger ≡ d0.core.ledger → start ≡ start_of n d0.core.desk.base.marks → IsTableOf is_honest state s2 n (new_table start)
  glanced_table n start quiet is =
      let found = v.stands.stands v.stands.origin v.stands.opened in
      let lines : seen s2 ≡ journal d0 = v.seen ∙ ap (λ (l : Ledger). l.book.lines) quiet in
      let base : d0.core.desk.base ≡ base_of (opened_base d0.start) (seen s2) =
      base_is is_honest state v.stands.origin.history d0.core found.plain found.is ∙ (ap (λ (b : Base). base_of b (journal d0)) v.stands.opened.base ∙ ap (base_of (opened_base d0.start)) (sym lines)) in
      record {
        start = λ x e.
            subst (λ (y : Start D). start ≡ start_of n (base_of (opened_base y) (seen s2)).marks) (some_is d0.start x (sym v.opening ∙ (sym v.same.opening ∙ e)))
            (is ∙ ap (λ (b : Base). start_of n b.marks) base);
        held = omega arith;
        among = λ x o e op. table_in (after_journal o.history (seen s2)) start;
      }

module _ {D : Type 0} (is_honest : D → Type 0) (state : D → State) (faults : D → ℕ) (z : TableId) (s0 s2 : Sat D) (d0 d1 : DeskSide D) (v : Visited is_honest state faults z s0 s2 d0 d1) (who : Who) where
  pub looked_table : (n : ℕ) (result : Result ℕ Refusal) → LookDoes is_honest state who n result d0.core d1.core → IfOk result (λ start. IsTableOf is_honest state s2 n (new_table start))
  looked_table n (Err why) does = tt
  looked_table n (Ok start) does =
      let found = v.stands.stands v.stands.origin v.stands.opened in
      let lines : seen s2 ≡ journal d0 ++ line_of who (whats.Looked n) ∷ [] =
      v.seen ∙ (ap (λ (l : Ledger). l.book.lines) does.looked.done.1 ∙ ap (λ (l : List Line). l ++ line_of who (whats.Looked n) ∷ []) (given_lines who d0.core.ledger)) in
      let base : d0.core.desk.base ≡ base_of (opened_base d0.start) (journal d0) =
      base_is is_honest state v.stands.origin.history d0.core found.plain found.is ∙ ap (λ (b : Base). base_of b (journal d0)) v.stands.opened.base in
      let same : base_of (opened_base d0.start) (seen s2) ≡ base_of (opened_base d0.start) (journal d0) =
      ap (base_of (opened_base d0.start)) lines ∙ base_of_one_more (opened_base d0.start) (journal d0) (line_of who (whats.Looked n)) in
      record {
        start = λ x e.
            subst (λ (y : Start D). start ≡ start_of n (base_of (opened_base y) (seen s2)).marks) (some_is d0.start x (sym v.opening ∙ (sym v.same.opening ∙ e)))
            (does.start ∙ ap (λ (b : Base). start_of n b.marks) (base ∙ sym same));
        held = omega arith;
        among = λ x o e op. table_in (after_journal o.history (seen s2)) start;
      }
