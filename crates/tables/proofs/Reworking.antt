-- Rows reworked one after the other.
use Rattle.std.proofs.Common.{◌≡◌, ◌<◌, ◌+◌, ◌++◌, ◌∙◌, ℕ, suc, List, [], ◌∷◌, Result, Ok, Err, length, drop, drop-cons, get_or, refl, ap, sym, subst, append_assoc, append-nil, arith}
use Rattle.retro_base.specs.declared.refusal.Refusal.{Refusal}
use Rattle.tables.specs.declared.contents.NumberedRow.{NumberedRow}
use Rattle.tables.specs.Meaning.{reworked}
use Rattle.tables.specs.Reworked.{behind}
use Rattle.tables.proofs.Sound.{ok_same}

abbrev pub Made : Type 0
Made = List NumberedRow × ℕ

pub joined_pair : (rows others : List NumberedRow) (m n : ℕ) → rows ≡ others → m ≡ n → ◌≡◌ {A = Made} (rows, m) (others, n)
joined_pair rows others m n e f = rw (e, f) refl

module _ (step : NumberedRow → Result Made Refusal) where
  behind_rest : (a b here : Made) (rest : Result Made Refusal) → ◌≡◌ {A = Made} (a.0 ++ here.0, a.1 + here.1) b
      → behind a (Rattle.retro_base.specs.Gives.◌>>=◌ rest (λ (more : Made). Ok (here.0 ++ more.0, here.1 + more.1))) ≡ behind b rest
  behind_rest a b here (Err why) same = refl
  behind_rest a b here (Ok m) same =
      ap Ok (joined_pair (a.0 ++ (here.0 ++ m.0)) ((a.0 ++ here.0) ++ m.0) (a.1 + (here.1 + m.1)) ((a.1 + here.1) + m.1) (sym (append_assoc a.0 here.0 m.0)) (omega arith))
      ∙ ap (λ (x : Made). Ok (x.0 ++ m.0, x.1 + m.1)) same

  behind_cons : (row : NumberedRow) (rest : List NumberedRow) (a b : Made) → behind a (reworked step (row ∷ [])) ≡ Ok b → behind a (reworked step (row ∷ rest)) ≡ behind b (reworked step rest)
  behind_cons row rest a b e = by_step (step row) refl
    where
      by_step : (s : Result Made Refusal) → step row ≡ s → behind a (reworked step (row ∷ rest)) ≡ behind b (reworked step rest)
      by_step (Err why) is = let none : behind a (Err why) ≡ Ok b = rw is at e in cc
      by_step (Ok here) is =
          let first : ◌≡◌ {A = Result Made Refusal} (Ok (a.0 ++ (here.0 ++ []), a.1 + (here.1 + 0))) (Ok b) = rw is at e in
          let same : ◌≡◌ {A = Made} (a.0 ++ here.0, a.1 + here.1) b =
          joined_pair (a.0 ++ here.0) (a.0 ++ (here.0 ++ [])) (a.1 + here.1) (a.1 + (here.1 + 0)) (ap (λ (rows : List NumberedRow). a.0 ++ rows) (sym (append-nil here.0))) (omega arith) ∙ ok_same _ b first in
          rw is (behind_rest a b here (reworked step rest) same)

  -- one more row
  pub reworked_more : (rows : List NumberedRow) (i : ℕ) (row : NumberedRow) (a b : Made) → i < length rows → row ≡ get_or rows i row → behind a (reworked step (drop i rows)) ≡ reworked step rows → behind a (reworked step (row ∷ [])) ≡ Ok b
      → behind b (reworked step (drop (i + 1) rows)) ≡ reworked step rows
  reworked_more rows i row a b lt is so_far here =
      let next : suc i ≡ i + 1 = omega arith in
      let split : drop i rows ≡ row ∷ drop (i + 1) rows = drop-cons rows i row lt ∙ ap (λ (x : NumberedRow). x ∷ drop (suc i) rows) (sym is) ∙ ap (λ (n : ℕ). row ∷ drop n rows) next in
      sym (behind_cons row (drop (i + 1) rows) a b here) ∙ ap (λ (rest : List NumberedRow). behind a (reworked step rest)) (sym split) ∙ so_far
