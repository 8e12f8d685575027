-- The changes of a log, done again over the pages.
use Rattle.std.proofs.Common.{◌≡◌, ◌∙◌, ◌<◌, ◌+◌, ◌-◌, ◌||◌, ℕ, zero, suc, Bool, true, false, eqb, List, [], ◌∷◌, ◌++◌, length, take, drop, get_or, map, refl, sym, ap, subst, arith}
use Rattle.std.specs.List.{AllByRecursion}
use Rattle.std.proofs.Math.Path.{fun_ext}
use Rattle.std.proofs.lemmas.Bool.{eq-eqb}
use Rattle.std.proofs.lemmas.List.{append-nil, drop_more, take_more}
use Rattle.std.proofs.lemmas.List.Folds.{list_any-append}
use Rattle.disk_model.specs.Disk.{State}
use Rattle.block_file.specs.Blocks.{File, SameFile}
use Rattle.history.specs.declared.entry.Base.{Base}
use Rattle.history.specs.declared.entry.Change.{Change}
use Rattle.history.specs.declared.writes.PageImage.{PageImage}
use Rattle.history.specs.History.{State as Place, after, base_after, bases_after, before_write, captured_by, captures_of, capturing, pages_after, run}
use Rattle.history.specs.Right.{AreRight, IsRight}
use Rattle.history.specs.Writes.{pages_of, is_among}
use Rattle.history.proofs.Captures.{run-append}
use Rattle.page_pool.specs.Side.{held, IsPageSide, Pool}
use Rattle.race_model.specs.Desk.{is_written, writes_of, writes_page}
use Rattle.race_model.proofs.Histories.{captures_of-append, run_count}
use Rattle.race_model.proofs.Lists.{pages_of-append, pages_of-drop}
use Rattle.desk.specs.declared.fetch.Redone.{Redone}
use Rattle.desk.specs.Fetched.{IsRedone}
use Rattle.desk.proofs.Steps.{captures_at, pages_at}

-- ---- pages that are held

-- each page of the writes is held
pub all_held : {D : Type 0} (pool : Pool D) (flags : ℕ → Bool) (writes : List PageImage) → ((page : ℕ) → held pool page ≡ (flags page || is_among page (pages_of writes))) → AllByRecursion (λ write. held pool write.page ≡ true) writes
all_held pool flags writes is = go writes (λ page e. is page ∙ ap (λ (b : Bool). flags page || b) e ∙ or_true (flags page)) where
  or_true : (b : Bool) → b || true ≡ true
  or_true true = refl
  or_true false = refl

  or_here : (a b : Bool) → a ≡ true → a || b ≡ true
  or_here true b e = refl
  or_here false b e = absurd cc

  or_there : (a b : Bool) → b ≡ true → a || b ≡ true
  or_there true b e = refl
  or_there false b e = e

  go : (ws : List PageImage) → ((page : ℕ) → is_among page (pages_of ws) ≡ true → held pool page ≡ true) → AllByRecursion (λ write. held pool write.page ≡ true) ws
  go [] all = tt
  go (w ∷ ws) all = (all w.page (or_here (eqb w.page w.page) (is_among w.page (pages_of ws)) (eq-eqb w.page w.page refl)), go ws (λ page e. all page (or_there (eqb w.page page) (is_among page (pages_of ws)) e)))

-- ---- one change more

drop_both : {X : Type 0} (n : ℕ) (xs ys : List X) → drop n (xs ++ ys) ≡ drop n xs ++ drop (n - length xs) ys
drop_both zero xs ys = ap (λ (k : ℕ). xs ++ drop k ys) (let none : 0 ≡ 0 - length xs = omega arith in none)
drop_both (suc n) [] ys = ap (λ (k : ℕ). drop k ys) (let same : suc n ≡ suc n - 0 = omega arith in same)
drop_both (suc n) (x ∷ xs) ys = drop_both n xs ys ∙ ap (λ (k : ℕ). drop n xs ++ drop k ys) (let same : n - length xs ≡ suc n - suc (length xs) = omega arith in same)

caps_more : (origin : Place) (changes : List Change) (change : Change) → captures_of origin (changes ++ change ∷ []) ≡ captures_of origin changes ++ captured_by (run origin changes) change
caps_more origin changes change = captures_of-append origin changes (change ∷ []) ∙ ap (λ (l : List PageImage). captures_of origin changes ++ l) (append-nil (captured_by (run origin changes) change))

written_more : (page : ℕ) (changes : List Change) (change : Change) → (is_written page changes || writes_page page change) ≡ is_written page (changes ++ change ∷ [])
written_more page changes change = sym (list_any-append (writes_page page) changes (change ∷ []) ∙ ap (λ (b : Bool). is_written page changes || b) (or_false (writes_page page change))) where
  or_false : (b : Bool) → b || false ≡ b
  or_false true = refl
  or_false false = refl

module _ {D : Type 0} (honest : D → Type 0) (state : D → State) (old new : Redone) (before held_pool pool : Pool D) (origin : Place) (number : ℕ) (changes : List Change) (change : Change) (images : List PageImage) (is : IsRedone honest state old before origin number changes) where
  pub redone_more : new.base ≡ base_after old.base change
      → new.captured.items ≡ old.captured.items ++ pages_of images → new.pending.items ≡ old.pending.items ++ drop (number - old.base.captures) images
      → pages_of images ≡ pages_of (capturing old.base (writes_of change))
      → ((pages device : ℕ → List ℕ) (loose dirty : ℕ → Bool) → IsPageSide honest state held_pool pages device loose dirty → honest held_pool.file.disk → images ≡ map (before_write pages) (capturing old.base (writes_of change)))
      → ((pages device : ℕ → List ℕ) (loose dirty : ℕ → Bool) → IsPageSide honest state before pages device loose dirty → IsPageSide honest state held_pool pages device loose dirty)
      → ((pages device : ℕ → List ℕ) (loose dirty : ℕ → Bool) → IsPageSide honest state held_pool pages device loose dirty → IsPageSide honest state pool (pages_after pages change) device loose (λ page. dirty page || writes_page page change))
      → (honest pool.file.disk → honest held_pool.file.disk) → (honest held_pool.file.disk → honest before.file.disk)
      → IsRedone honest state new pool origin number (changes ++ change ∷ [])
  redone_more base captured pending pages bytes holds enters back from =
      let here : Place = run origin changes in
      let caps : List PageImage = captures_of origin changes in
      let more : List PageImage = captured_by here change in
      let grown : captures_of origin (changes ++ change ∷ []) ≡ caps ++ more = caps_more origin changes change in
      let behind : run origin (changes ++ change ∷ []) ≡ after here change = run-append origin changes (change ∷ []) in
      let count : old.base.captures ≡ origin.base.captures + length caps = ap (λ (b : Base). b.captures) is.base ∙ run_count origin changes in
      let left : (number - origin.base.captures) - length caps ≡ number - old.base.captures = omega (arith, count) in
      let these : pages_of images ≡ pages_of more = pages ∙ pages_at here old.base change is.base in
      let rest : drop (number - origin.base.captures) (captures_of origin (changes ++ change ∷ [])) ≡ drop (number - origin.base.captures) caps ++ drop (number - old.base.captures) more =
      ap (drop (number - origin.base.captures)) grown ∙ drop_both (number - origin.base.captures) caps more ∙ ap (λ (n : ℕ). drop (number - origin.base.captures) caps ++ drop n more) left in
      record {
        base = base ∙ ap (λ (b : Base). base_after b change) is.base ∙ ap (λ (s : Place). s.base) (sym behind);
        side = subst (λ (d : ℕ → Bool). IsPageSide honest state pool (run origin (changes ++ change ∷ [])).pages origin.pages (λ page. false) d) (fun_ext (λ page. written_more page changes change))
            (subst (λ (s : Place). IsPageSide honest state pool s.pages origin.pages (λ page. false) (λ page. is_written page changes || writes_page page change)) (sym behind)
            (enters here.pages origin.pages (λ page. false) (λ page. is_written page changes) (holds here.pages origin.pages (λ page. false) (λ page. is_written page changes) is.side)));
        captured = captured ∙ ap (λ (l : List ℕ). l ++ pages_of images) is.captured ∙ ap (λ (l : List ℕ). pages_of caps ++ l) these ∙ sym (ap pages_of grown ∙ pages_of-append caps more);
        pending = ap pages_of pending ∙ pages_of-append old.pending.items (drop (number - old.base.captures) images)
            ∙ ap (λ (l : List ℕ). l ++ pages_of (drop (number - old.base.captures) images)) is.pending
            ∙ ap (λ (l : List ℕ). pages_of (drop (number - origin.base.captures) caps) ++ l) (pages_of-drop (number - old.base.captures) images ∙ ap (drop (number - old.base.captures)) these ∙ sym (pages_of-drop (number - old.base.captures) more))
            ∙ sym (ap pages_of rest ∙ pages_of-append (drop (number - origin.base.captures) caps) (drop (number - old.base.captures) more));
        bytes = λ told.
            let was : honest held_pool.file.disk = back told in
            pending ∙ ap (λ (l : List PageImage). l ++ drop (number - old.base.captures) images) (is.bytes (from was))
            ∙ ap (λ (l : List PageImage). drop (number - origin.base.captures) caps ++ drop (number - old.base.captures) l)
            (bytes here.pages origin.pages (λ page. false) (λ page. is_written page changes) (holds here.pages origin.pages (λ page. false) (λ page. is_written page changes) is.side) was ∙ captures_at here old.base change is.base)
            ∙ sym rest;
      }

-- ---- all of them

drop_none : {X : Type 0} (n : ℕ) → drop {A = X} n [] ≡ []
drop_none zero = refl
drop_none (suc n) = refl

pub redone_none : {D : Type 0} (honest : D → Type 0) (state : D → State) (redone : Redone) (pool : Pool D) (origin : Place) (number : ℕ) → redone.base ≡ origin.base → redone.captured.items ≡ [] → redone.pending.items ≡ []
    → IsPageSide honest state pool origin.pages origin.pages (λ page. false) (λ page. false) → IsRedone honest state redone pool origin number []
redone_none honest state redone pool origin number base captured pending side = record {
  base = base;
  side = side;
  captured = captured;
  pending = ap pages_of (pending ∙ sym (drop_none (number - origin.base.captures)));
  bytes = λ told. pending ∙ sym (drop_none (number - origin.base.captures));
}

pub right_more : (base : Base) (changes : List Change) (i : ℕ) (change : Change) → i < length changes → change ≡ get_or changes i change → AreRight base (drop i changes) → IsRight base change × AreRight (base_after base change) (drop (i + 1) changes)
right_more base changes i change lt is right = subst (AreRight base) (drop_more changes i change lt ∙ ap (λ (c : Change). c ∷ drop (i + 1) changes) (sym is)) right

pub front_more : (changes : List Change) (i : ℕ) (change : Change) → i < length changes → change ≡ get_or changes i change → take i changes ++ change ∷ [] ≡ take (i + 1) changes
front_more changes i change lt is = ap (λ (c : Change). take i changes ++ c ∷ []) is ∙ sym (take_more changes i change lt)

bases_last : (base : Base) (changes : List Change) (change : Change) → base_after (bases_after base changes) change ≡ bases_after base (changes ++ change ∷ [])
bases_last base [] change = refl
bases_last base (first ∷ changes) change = bases_last (base_after base first) changes change

pub bases_more : (base place next : Base) (changes : List Change) (i : ℕ) (change : Change) → i < length changes → change ≡ get_or changes i change → place ≡ bases_after base (take i changes) → next ≡ base_after place change → next ≡ bases_after base (take (i + 1) changes)
bases_more base place next changes i change lt is before now =
    now ∙ ap (λ (b : Base). base_after b change) before ∙ bases_last base (take i changes) change ∙ ap (bases_after base) (front_more changes i change lt is)

pub same_on : {D : Type 0} (honest : D → Type 0) (old mid new : File D) → SameFile honest old mid → SameFile honest mid new → SameFile honest old new
same_on honest old mid new first second = record {
  blocks = second.blocks ∙ first.blocks;
  honest = (λ h. second.honest.0 (first.honest.0 h), λ h. first.honest.1 (second.honest.1 h));
}
