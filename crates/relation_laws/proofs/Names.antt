-- Tables by name, and by their first pages.
use Rattle.std.proofs.Common.{◌≡◌, ◌≢◌, ◌∙◌, ◌≤◌, ◌++◌, ℕ, Bool, true, false, List, [], ◌∷◌, map, flat_map, Some, refl, sym, ap, arith, eq-eqb}
use Rattle.std.specs.Cmp.Lexicographic.{pointwise_decides}
use Rattle.std.specs.List.{AllByRecursion, Contains}
use Rattle.std.proofs.lemmas.Bool.{eqb-true}
use Rattle.std.proofs.lemmas.List.Concat.{flat_map-cons}
use Rattle.pager.specs.Pages.{Pages}
use Rattle.heap_laws.specs.Store.{Chain, IsChain, WellFormed, pages_of, times}
use Rattle.heap_laws.proofs.Counts.{keyed, keyed-cons, keyed-map, keyed-same}
use Rattle.heap_laws.proofs.Routes.{times-append}
use Rattle.heap_laws.proofs.Rows.{keyed-contains}
use Rattle.heap_laws.proofs.Stores.{chain_pages}
use Rattle.relation.specs.declared.catalog.StoredTable.{StoredTable}
use Rattle.relation.specs.declared.catalog.TheConstants.{CATALOG}
use Rattle.relation.specs.Catalog.{table_named}
use Rattle.values.specs.Name.{same_name}
use Rattle.relation_laws.specs.Tables.{AreDifferent, names_of}
use Rattle.relation_laws.proofs.Lists.{contains-cases, contains-head, keyed-one, one-keyed}

pub name-is : (a b : List ℕ) → same_name a b ≡ true → a ≡ b
name-is a b h = (pointwise_decides (λ (x y : ℕ). (eqb-true x y, eq-eqb x y)) a b).0 h

pub name-same : (a b : List ℕ) → a ≡ b → same_name a b ≡ true
name-same a b e = (pointwise_decides (λ (x y : ℕ). (eqb-true x y, eq-eqb x y)) a b).1 e

-- the table of a name, among tables whose names differ
pub named-there : (tables : List StoredTable) (table : StoredTable) → AreDifferent (names_of tables) → Contains tables table → table_named table.name tables ≡ Some table
named-there [] table apart has = absurd (omega (arith, has.1))
named-there (first ∷ tables) table apart has = go (λ there. named-there tables table apart.1 there) (same_name first.name table.name) refl
  where
    clash : false ≡ true → ⊥
    clash e = absurd cc

    go : (Contains tables table → table_named table.name tables ≡ Some table) → (b : Bool) → same_name first.name table.name ≡ b → table_named table.name (first ∷ tables) ≡ Some table
    go rest true e =
        let same : first ≡ table = one-keyed (λ (t : StoredTable). t.name) (first ∷ tables) first table apart (contains-head first tables) has (name-is first.name table.name e) in
        rw e (ap (λ (t : StoredTable). Some t) same)
    go rest false e =
        rw e (contains-cases first table tables has
        (λ same. absurd (clash (sym e ∙ name-same first.name table.name (ap (λ (t : StoredTable). t.name) same))))
        rest)

-- each first page stands once among those of a store
pub firsts-once : (size : ℕ) (pages : Pages) (firsts indexes : List ℕ) → WellFormed size pages firsts indexes → (p : ℕ) → times p firsts ≤ 1
firsts-once size pages firsts indexes well p =
    omega (arith, ap (times p) well.named, keyed-map (λ (c : Chain). c.first) p well.chains, within well.chains well.lawful, times-append p (flat_map pages_of well.chains) (indexes ++ well.free), well.once p)
  where
    within : (chains : List Chain) → AllByRecursion (IsChain size pages) chains → keyed (λ (c : Chain). c.first) p chains ≤ times p (flat_map pages_of chains)
    within [] all = omega arith
    within (chain ∷ chains) all =
        omega (arith, keyed-cons (λ (c : Chain). c.first) p chain chains, chain_pages size pages chain all.0 p, ap (times p) (flat_map-cons pages_of chain chains), times-append p (pages_of chain) (flat_map pages_of chains), within chains all.1)

abbrev pub first_of : StoredTable → ℕ
first_of table = table.first

-- tables of a store with one first page are one table, and it is not the catalog's
pub first-one : (size : ℕ) (pages : Pages) (tables : List StoredTable) (indexes : List ℕ) (a b : StoredTable) → WellFormed size pages (CATALOG ∷ map first_of tables) indexes → Contains tables a → Contains tables b → a.first ≡ b.first → a ≡ b
first-one size pages tables indexes a b well has also same =
    keyed-one first_of b.first tables a b (omega (arith, firsts-once size pages (CATALOG ∷ map first_of tables) indexes well b.first, keyed-cons (λ (m : ℕ). m) b.first CATALOG (map first_of tables), keyed-map first_of b.first tables)) has also same refl

pub first-apart : (size : ℕ) (pages : Pages) (tables : List StoredTable) (indexes : List ℕ) (table : StoredTable) → WellFormed size pages (CATALOG ∷ map first_of tables) indexes → Contains tables table → CATALOG ≢ table.first
first-apart size pages tables indexes table well has same =
    omega (arith, firsts-once size pages (CATALOG ∷ map first_of tables) indexes well table.first, keyed-same (λ (m : ℕ). m) table.first CATALOG (map first_of tables) same, keyed-map first_of table.first tables, keyed-contains first_of tables table has)
