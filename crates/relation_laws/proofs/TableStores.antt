-- Tables on pages, with other pages that they leave alone.
use Rattle.std.specs.Prelude.{◌≡◌, ℕ, List}
use Rattle.pager.specs.Pages.{Pages}
use Rattle.relation.specs.declared.catalog.Catalog.{Catalog}
use Rattle.relation_laws.specs.Laws.{IsStoreOf}
use Rattle.relation_laws.specs.Tables.{IsTableStore, PlainTables, TablesOf}

-- pages on which these tables stand
pub record IsTableStoreOf (size : ℕ) (pages : Pages) (all : PlainTables) : Type 0 where
  pub store : IsTableStore size pages
  pub tables : TablesOf size pages all

-- the tables of a store, apart from its indexes
abbrev pub tables_of : (size : ℕ) (pages : Pages) (all : PlainTables) → IsStoreOf size pages all → IsTableStoreOf size pages all
tables_of size pages all is = record { store = is.store.base; tables = is.tables }

-- pages on which these tables then stand, with that catalog, whose other pages are these
pub record HoldsStill (size : ℕ) (pages : Pages) (all : PlainTables) (found : Catalog) (held : List ℕ) : Type 0 where
  pub is : IsTableStoreOf size pages all
  pub found_is : is.store.found ≡ found
  pub held_is : is.store.held ≡ held
