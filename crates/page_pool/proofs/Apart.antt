-- Frames and clean pages apart.
use Rattle.std.proofs.Common.{◌≡◌, ⊎_elim, ◌∙◌, ℕ, List, false, Option, Some, None, refl, sym, ap, subst, Contains}
use Rattle.std.specs.Prelude.{IsSome, IfSome}
use Rattle.std.proofs.lemmas.Bool.{both_ways, cases_eq}
use Rattle.page_pool.specs.declared.frames.Frame.{Frame}
use Rattle.page_pool.specs.Clean.{AreApart, HoldsClean, KeepsBeside, KeepsNoMore}
use Rattle.lru.specs.LruCache.{LruCache}
use Rattle.page_pool.specs.Frames.{AreFrames, SetsFrame}
use Rattle.page_pool.specs.Side.{IsPool}

-- with fewer clean pages
pub apart_less : (frame : ℕ → Option Frame) (old new : List (ℕ × List ℕ)) → AreApart frame old → KeepsNoMore old new → AreApart frame new
apart_less frame old new apart less = λ entry at some. apart entry (less entry at) some

-- with one more, that has no frame
pub apart_beside : (frame : ℕ → Option Frame) (old new : List (ℕ × List ℕ)) (page : ℕ) (bytes : List ℕ) → AreApart frame old → KeepsBeside old (page, bytes) new → frame page ≡ None → AreApart frame new
apart_beside frame old new page bytes apart beside none = λ entry at some. ⊎_elim
    (λ was. apart entry was some)
    (λ (is : entry ≡ (page, bytes)). both_ways false refl (subst (λ (o : Option Frame). IsSome o) (ap (λ (e : ℕ × List ℕ). frame e.0) is ∙ none) some))
    (beside entry at)

-- with another frame of a page that has one, or that is not kept
pub apart_set : (old new : ℕ → Option Frame) (entries : List (ℕ × List ℕ)) (page : ℕ) (frame : Option Frame) → AreApart old entries → SetsFrame old new page frame → ((bytes : List ℕ) → Contains entries (page, bytes) → IsSome frame → ⊥) → AreApart new entries
apart_set old new entries page frame apart sets gone = λ entry at some. ⊎_elim
    (λ (is : entry.0 ≡ page). gone entry.1 (subst (λ (n : ℕ). Contains entries (n, entry.1)) is at) (subst (λ (o : Option Frame). IsSome o) (ap new is ∙ sets.here) some))
    (λ other. apart entry at (subst (λ (o : Option Frame). IsSome o) (sets.others entry.0 other) some))
    (cases_eq entry.0 page)

pub holds_less : (old new : List (ℕ × List ℕ)) (pages : ℕ → List ℕ) → HoldsClean old pages → KeepsNoMore old new → HoldsClean new pages
holds_less old new pages holds less = λ entry at. holds entry (less entry at)

pub holds_beside : (old new : List (ℕ × List ℕ)) (page : ℕ) (bytes : List ℕ) (pages : ℕ → List ℕ) → HoldsClean old pages → KeepsBeside old (page, bytes) new → bytes ≡ pages page → HoldsClean new pages
holds_beside old new page bytes pages holds beside same = λ entry at. ⊎_elim
    (λ was. holds entry was)
    (λ (is : entry ≡ (page, bytes)). ap (λ (e : ℕ × List ℕ). e.1) is ∙ same ∙ ap (λ (e : ℕ × List ℕ). pages e.0) (sym is))
    (beside entry at)

-- what the frames show, where one of them is another
pub shows_set : (old new : ℕ → Option Frame) (page : ℕ) (frame : Option Frame) (pages next : ℕ → List ℕ) → SetsFrame old new page frame → ((other : ℕ) → (other ≡ page → ⊥) → next other ≡ pages other) → ((other : ℕ) → IfSome (old other) (λ f. f.bytes ≡ pages other)) → IfSome frame (λ f. f.bytes ≡ next page) → (other : ℕ) → IfSome (new other) (λ f. f.bytes ≡ next other)
shows_set old new page frame pages next sets same shows is other = ⊎_elim
    (λ (e : other ≡ page). subst (λ (o : Option Frame). IfSome o (λ f. f.bytes ≡ next other)) (sym (ap new e ∙ sets.here)) (subst (λ (n : ℕ). IfSome frame (λ f. f.bytes ≡ next n)) (sym e) is))
    (λ apart. subst (λ (o : Option Frame). IfSome o (λ f. f.bytes ≡ next other)) (sym (sets.others other apart)) (subst (λ (b : List ℕ). IfSome (old other) (λ f. f.bytes ≡ b)) (sym (same other apart)) (shows other)))
    (cases_eq other page)

module _ (old new : ℕ → Option Frame) (page : ℕ) (clean : LruCache ℕ (List ℕ)) (pages count next : ℕ) (pool : IsPool old clean pages count) (are : AreFrames new pages next) where
  -- the page's frame is another
  pub pool_set : (frame : Frame) → SetsFrame old new page (Some frame) → IsSome (old page) → IsPool new clean pages next
  pool_set frame sets there = record {
    frames = are;
    apart = apart_set old new clean.entries page (Some frame) pool.apart sets (λ bytes at some. pool.apart (page, bytes) at there);
    room = pool.room;
    few = pool.few;
  }

  -- the page has no frame any more, and may be kept among the clean ones
  pub pool_drop : (bytes : List ℕ) (kept : LruCache ℕ (List ℕ)) → SetsFrame old new page None → KeepsBeside clean.entries (page, bytes) kept.entries → kept.cap ≡ clean.cap → IsPool new kept pages next
  pool_drop bytes kept sets beside room = record {
    frames = are;
    apart = apart_beside new clean.entries kept.entries page bytes (apart_set old new clean.entries page None pool.apart sets (λ b at some. both_ways false refl some)) beside sets.here;
    room = room ∙ pool.room;
    few = pool.few;
  }

  -- the page, which is not kept, has a frame
  pub pool_add : (frame : Frame) → SetsFrame old new page (Some frame) → ((bytes : List ℕ) → Contains clean.entries (page, bytes) → ⊥) → IsPool new clean pages next
  pool_add frame sets gone = record {
    frames = are;
    apart = apart_set old new clean.entries page (Some frame) pool.apart sets (λ bytes at some. gone bytes at);
    room = pool.room;
    few = pool.few;
  }

-- the clean pages are others, none of a page with a frame
pub pool_keeps : (frame : ℕ → Option Frame) (clean kept : LruCache ℕ (List ℕ)) (pages count : ℕ) → IsPool frame clean pages count → KeepsNoMore clean.entries kept.entries → kept.cap ≡ clean.cap → IsPool frame kept pages count
pool_keeps frame clean kept pages count pool less room = record { frames = pool.frames; apart = apart_less frame clean.entries kept.entries pool.apart less; room = room ∙ pool.room; few = pool.few }

pub pool_beside : (frame : ℕ → Option Frame) (clean kept : LruCache ℕ (List ℕ)) (pages count page : ℕ) (bytes : List ℕ) → IsPool frame clean pages count → KeepsBeside clean.entries (page, bytes) kept.entries → kept.cap ≡ clean.cap → frame page ≡ None → IsPool frame kept pages count
pool_beside frame clean kept pages count page bytes pool beside room none = record { frames = pool.frames; apart = apart_beside frame clean.entries kept.entries page bytes pool.apart beside none; room = room ∙ pool.room; few = pool.few }
