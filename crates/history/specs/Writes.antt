-- Lists of pages and of page images.
use Rattle.std.specs.Prelude.{◌+◌, ◌==◌, ◌&&◌, nat_le, ℕ, Bool, true, List, [], ◌∷◌, map}
use Rattle.std.specs.List.{list_any}
use Rattle.history.specs.declared.writes.PageImage.{PageImage}

abbrev pub pages_of : List PageImage → List ℕ
pages_of images = map (λ image. image.page) images

-- whether the pages strictly rise from `least` on
abbrev pub rises : ℕ → List ℕ → Bool
rises least [] = true
rises least (page ∷ pages) = nat_le least page && rises (page + 1) pages

-- whether a page is among these
abbrev pub is_among : ℕ → List ℕ → Bool
is_among page pages = list_any (λ other. other == page) pages
