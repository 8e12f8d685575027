-- What a cache of pages keeps.
use Rattle.std.proofs.Common.{◌≡◌, ◌∙◌, ℕ, Bool, true, false, cond, List, [], ◌∷◌, ⊎_elim, inl, inr, eqb, sym, ap, subst, Contains, nat_eq, refl}
use Rattle.std.specs.Prelude.{Option, Some, None, IfNone, IfSome}
use Rattle.std.specs.List.{IsDistinct}
use Rattle.std.specs.Map.{keys_of, lookup, remove_entry}
use Rattle.std.specs.Cmp.{nat_eq_equiv}
use Rattle.std.proofs.lemmas.Bool.{eqb-true, eq-eqb, both_ways}
use Rattle.std.proofs.lemmas.Map.{lookup-remove_entry, none_passes_from_lookup, NonePasses}
use Rattle.lru.specs.LruCache.{LruCache, promoted, put_entries}
use Rattle.lru.proofs.Splits.{Contains-cons, Contains-nil}
use Rattle.lru.proofs.CallerLemmas.{Contains-put_entries, Contains-lookup, Contains-promoted, Contains-remove_entry}
use Rattle.page_pool.specs.Clean.{KeepsBeside, KeepsNoMore}

pub put_keeps : (c : LruCache ℕ (List ℕ)) (page : ℕ) (bytes : List ℕ) → KeepsBeside c.entries (page, bytes) (put_entries nat_eq c page bytes)
put_keeps c page bytes = λ entry at. ⊎_elim (λ old. inl old)
    (λ put. inr (λ i. (⊎_elim (λ is. is) (λ other. sym (eqb-true page entry.0 other.2)) put.1 i, put.0 i)))
    (Contains-put_entries nat_eq c page bytes entry at)

pub found : (page : ℕ) (entries : List (ℕ × List ℕ)) (o : Option (List ℕ)) → o ≡ lookup (nat_eq page) entries → IfSome o (λ bytes. Contains entries (page, bytes))
found page entries None is = tt
found page entries (Some bytes) is =
    let at = Contains-lookup (nat_eq page) entries bytes (sym is) in
    subst (λ (k : ℕ). Contains entries (k, bytes)) (sym (eqb-true page at.0 at.2)) at.1

pub removed : (page : ℕ) (entries : List (ℕ × List ℕ)) → KeepsNoMore entries (remove_entry (nat_eq page) entries)
removed page entries = λ entry at. Contains-remove_entry (nat_eq page) entries entry at

pub promoted_keeps : (page : ℕ) (entries : List (ℕ × List ℕ)) → KeepsNoMore entries (promoted (nat_eq page) entries)
promoted_keeps page entries = λ entry at. Contains-promoted (nat_eq page) entries entry at

none_contains : (test : ℕ → Bool) (es : List (ℕ × List ℕ)) (e : ℕ × List ℕ) → NonePasses test es → Contains es e → test e.0 ≡ false
none_contains test [] e none at = absurd (Contains-nil e at)
none_contains test (f ∷ es) e none at = ⊎_elim (λ is. subst (λ (g : ℕ × List ℕ). test g.0 ≡ false) is none.0) (λ more. none_contains test es e none.1 more) (Contains-cons f es e at)

pub missed : (page : ℕ) (entries : List (ℕ × List ℕ)) (o : Option (List ℕ)) → o ≡ lookup (nat_eq page) entries → IfNone o ((bytes : List ℕ) → Contains entries (page, bytes) → ⊥)
missed page entries (Some bytes) is = tt
missed page entries None is = λ bytes at. both_ways (eqb page page) (none_contains (nat_eq page) entries (page, bytes) (none_passes_from_lookup (nat_eq page) entries (sym is)) at) (eq-eqb page page refl)

pub gone : (page : ℕ) (entries : List (ℕ × List ℕ)) → IsDistinct nat_eq (keys_of entries) → (bytes : List ℕ) → Contains (remove_entry (nat_eq page) entries) (page, bytes) → ⊥
gone page entries distinct bytes at =
    let none : lookup (nat_eq page) (remove_entry (nat_eq page) entries) ≡ None = lookup-remove_entry nat_eq_equiv (nat_eq page) one page entries distinct ∙ ap (λ (b : Bool). cond b None (lookup (nat_eq page) entries)) (eq-eqb page page refl) in
    both_ways (eqb page page) (none_contains (nat_eq page) (remove_entry (nat_eq page) entries) (page, bytes) (none_passes_from_lookup (nat_eq page) (remove_entry (nat_eq page) entries) none) at) (eq-eqb page page refl) where
      one : (x y : ℕ) → nat_eq page x ≡ true → nat_eq page y ≡ nat_eq x y
      one x y is = ap (λ (n : ℕ). nat_eq n y) (eqb-true page x is)
