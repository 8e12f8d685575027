-- The images of a batch, by their pages and their bytes.
use Rattle.std.proofs.Common.{◌≡◌, ◌<◌, ℕ, zero, suc, List, [], ◌∷◌, ◌++◌, length, get_or, refl, ap, arith}
use Rattle.history.specs.declared.writes.PageImage.{PageImage}
use Rattle.history.specs.Writes.{pages_of}
use Rattle.replay.specs.Opened.{forgotten}
use Rattle.race_model.specs.Vault.{images_of}

pub images_length : (pages : List ℕ) (all : List (List ℕ)) → length all ≡ length pages → length (images_of pages all) ≡ length pages
images_length [] all e = refl
images_length (page ∷ pages) [] e = absurd (omega (arith, e))
images_length (page ∷ pages) (bytes ∷ all) e = ap suc (images_length pages all (omega (arith, e)))

pub images_pages : (pages : List ℕ) (all : List (List ℕ)) → length all ≡ length pages → pages_of (images_of pages all) ≡ pages
images_pages [] all e = refl
images_pages (page ∷ pages) [] e = absurd (omega (arith, e))
images_pages (page ∷ pages) (bytes ∷ all) e = ap (λ ps. page ∷ ps) (images_pages pages all (omega (arith, e)))

pub images_bytes : (pages : List ℕ) (all : List (List ℕ)) (place : ℕ) (d : List ℕ) → length all ≡ length pages → place < length pages → get_or all place d ≡ (get_or (images_of pages all) place forgotten).bytes
images_bytes [] all place d e lt = absurd (omega (arith, lt))
images_bytes (page ∷ pages) [] place d e lt = absurd (omega (arith, e))
images_bytes (page ∷ pages) (bytes ∷ all) zero d e lt = refl
images_bytes (page ∷ pages) (bytes ∷ all) (suc place) d e lt = images_bytes pages all place d (omega (arith, e)) (omega (arith, lt))

pub images_more : (pages : List ℕ) (all : List (List ℕ)) (page : ℕ) (bytes : List ℕ) → length all ≡ length pages
    → images_of (pages ++ page ∷ []) (all ++ bytes ∷ []) ≡ images_of pages all ++ (let image : PageImage = record { page = page; bytes = bytes } in image ∷ [])
images_more [] [] page bytes e = refl
images_more [] (first ∷ all) page bytes e = absurd (omega (arith, e))
images_more (first ∷ pages) [] page bytes e = absurd (omega (arith, e))
images_more (first ∷ pages) (others ∷ all) page bytes e = ap (λ t. (let image : PageImage = record { page = first; bytes = others } in image ∷ t)) (images_more pages all page bytes (omega (arith, e)))
