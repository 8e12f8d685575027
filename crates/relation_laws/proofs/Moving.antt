-- The pages that changing a row leaves alone.
use Rattle.std.proofs.Common.{◌<◌, ℕ, Bool, true, false, List, [], ◌∷◌, inl, inr, refl, arith}
use Rattle.std.specs.List.{Contains}
use Rattle.pager.specs.Pages.{Pages}
use Rattle.heap_file.specs.declared.page.Entry.{Entry}
use Rattle.heap_laws.specs.Store.{WellFormed, times}
use Rattle.heap_laws.specs.Table.{ChangesRow, IsChanged, Table, has_room}
use Rattle.heap_laws.proofs.Staying.{moved-last}
use Rattle.relation_laws.proofs.Reaching.{Spares, others-spared, own, own-alone, own-first, own-met}

-- a row that is changed
pub changed-spares : (size : ℕ) (pages after : Pages) (firsts indexes : List ℕ) (first : ℕ) (table : Table) (page : ℕ) (entry : Entry) (to : ℕ) → WellFormed size pages firsts indexes → Contains firsts first → ChangesRow size pages firsts indexes first table page entry to after → Spares false size pages after firsts first
changed-spares size pages after firsts indexes first table page entry to well has changes = go (has_room changes.rest entry) (has_room changes.tail entry) changes.effect
  where
    here : 0 < times page (own size pages firsts indexes first well has)
    here = own-met size pages firsts indexes first page changes.stands.previous changes.stands.held well has changes.stands.stood

    end : 0 < times changes.last (own size pages firsts indexes first well has)
    end = moved-last size pages firsts indexes first page entry changes.rest changes.last changes.tail well has changes.stands

    go : (stays room : Bool) → IsChanged stays room size pages after first page changes.last to → Spares false size pages after firsts first
    go true room effect = own-alone false size pages after firsts indexes first well has (page ∷ []) effect.1 effect.2 (here, tt)
    go false true effect = own-alone false size pages after firsts indexes first well has (page ∷ changes.last ∷ []) effect.1 effect.2 (here, (end, tt))
    go false false effect = record {
      others = others-spared size pages after firsts indexes first well has (page ∷ first ∷ changes.last ∷ to ∷ 0 ∷ []) effect.1
          (inr (inl here), (inr (inl (own-first size pages firsts indexes first well has)), (inr (inl end), (inr (inr effect.0.next), (inl refl, tt)))));
      root = λ same. absurd (omega (arith, same, effect.0.one_less));
      turn = omega (arith, effect.0.one_less);
    }
