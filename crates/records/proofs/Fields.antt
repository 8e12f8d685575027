-- What is read of a field is what its bytes say, and what its bytes say is read.
use Rattle.std.proofs.Common.{◌≡◌, ◌<◌, ◌≤◌, ◌-◌, ◌^◌, ◌++◌, ◌∙◌, ℕ, zero, suc, Bool, true, false, cond, ltb, leb, List, [], ◌∷◌, length, take, drop, Option, Some, None, refl, sym, ap, subst, arith, append_assoc}
use Rattle.std.specs.Prelude.{IsTrue}
use Rattle.std.proofs.lemmas.Bool.{ltb-false, le-ltb, leb-true, le-leb, and_parts, and_from}
use Rattle.std.proofs.lemmas.List.{take_rest, take-append-drop, drop_at, take_at, length-take, length-append}
use Rattle.retro_base.specs.declared.limits.TheConstants.{PAGE_BYTES, LABEL_BYTES}
use Rattle.retro_base.specs.Fields.{number_at, field_bytes}
use Rattle.history.specs.declared.entry.Mark.{Mark}
use Rattle.history.specs.declared.log.Version.{Version}
use Rattle.history.specs.declared.writes.PageImage.{PageImage}
use Rattle.history.specs.Label.{is_label}
use Rattle.records.specs.Entries.{page_width, label_bytes, declaration_bytes, mark_bytes, write_bytes, MarkFits, WriteFits, LabelFits}
use Rattle.history.specs.Writes.{pages_of, rises}
use Rattle.records.specs.Reading.{◌>>=◌, where_true, take_number, take_bytes, take_label, take_declaration, take_mark, take_page, take_image, take_list, after_image}
use Rattle.retro_base.proofs.FieldLaws.{length-field_bytes}
use Rattle.records.proofs.Bytes.{IsBytes, IsBytes-drop, field_of-number, number-lt, number-again, byte_field}

-- the value of a step that gave one
pub bind_some : {A B : Type 0} (o : Option A) (f : A → Option B) (y : B) → (o >>= f) ≡ Some y → (x : A) × (o ≡ Some x) × (f x ≡ Some y)
bind_some None f y e = absurd cc
bind_some (Some x) f y e = (x, refl, e)

pub where_some : {A : Type 0} (b : Bool) (x y : A) → where_true b x ≡ Some y → (b ≡ true) × (x ≡ y)
where_some true x y e = (refl, cc)
where_some false x y e = absurd cc

unless_some : {A : Type 0} (b : Bool) (x y : A) → cond b None (Some x) ≡ Some y → (b ≡ false) × (x ≡ y)
unless_some true x y e = absurd cc
unless_some false x y e = (refl, cc)

abbrev some : {A : Type 0} → A → Option A
some x = Some x

pub some_is : {A : Type 0} (x y : A) → some x ≡ some y → x ≡ y
some_is x y e = cc

-- what a reader took from the front
pub record Takes (bytes text rest : List ℕ) : Type 0 where
  pub parts : bytes ≡ text ++ rest
  pub rest_fits : IsBytes rest

pub Takes-then : (a x b y c : List ℕ) → Takes a x b → Takes b y c → Takes a (x ++ y) c
Takes-then a x b y c p q = record { parts = p.parts ∙ ap (λ (t : List ℕ). x ++ t) q.parts ∙ sym (append_assoc x y c); rest_fits = q.rest_fits }

pub number_takes : (w : ℕ) (bytes : List ℕ) (x : ℕ × List ℕ) → IsBytes bytes → take_number w bytes ≡ Some x → Takes bytes (field_bytes w x.0) x.1 × (x.0 < 256 ^ w)
number_takes w bytes x fits e =
    let g = unless_some (ltb (length bytes) w) (number_at w bytes 0, drop w bytes) x e in
    let long : w ≤ length bytes = ltb-false _ _ g.0 in
    let parts : bytes ≡ field_bytes w (number_at w bytes 0) ++ drop w bytes = sym (take-append-drop w bytes) ∙ ap (λ t. t ++ drop w bytes) (sym (field_of-number w bytes long fits)) in
    subst (λ (y : ℕ × List ℕ). Takes bytes (field_bytes w y.0) y.1 × (y.0 < 256 ^ w)) g.1 (record { parts = parts; rest_fits = IsBytes-drop w bytes fits }, number-lt w bytes fits)

-- what a reader of a number gives where there are enough bytes
pub number_there : (w n : ℕ) (bytes : List ℕ) → w ≤ length bytes → n ≡ number_at w bytes 0 → take_number w bytes ≡ Some (n, take (length bytes - w) (drop w bytes))
number_there w n bytes le e =
    let long : ltb (length bytes) w ≡ false = le-ltb _ _ le in
    let rest : take (length bytes - w) (drop w bytes) ≡ drop w bytes = take_rest bytes w in
    rw (long, rest, e) refl

pub number_taken : (w n : ℕ) (rest : List ℕ) → n < 256 ^ w → take_number w (field_bytes w n ++ rest) ≡ Some (n, rest)
number_taken w n rest lt =
    let len : length (field_bytes w n) ≡ w = length-field_bytes w n in
    let long : ltb (length (field_bytes w n ++ rest)) w ≡ false = le-ltb _ _ (omega (arith, length-append (field_bytes w n) rest)) in
    rw (long, number-again w n rest lt, drop_at (field_bytes w n) rest w len) refl

pub bytes_take : (count : ℕ) (bytes : List ℕ) (x : List ℕ × List ℕ) → IsBytes bytes → take_bytes count bytes ≡ Some x → Takes bytes x.0 x.1 × (length x.0 ≡ count)
bytes_take count bytes x fits e =
    let g = unless_some (ltb (length bytes) count) (take count bytes, drop count bytes) x e in
    let long : count ≤ length bytes = ltb-false _ _ g.0 in
    subst (λ (y : List ℕ × List ℕ). Takes bytes y.0 y.1 × (length y.0 ≡ count)) g.1 (record { parts = sym (take-append-drop count bytes); rest_fits = IsBytes-drop count bytes fits }, omega (arith, length-take count bytes))

pub bytes_taken : (count : ℕ) (front rest : List ℕ) → length front ≡ count → take_bytes count (front ++ rest) ≡ Some (front, rest)
bytes_taken count front rest len =
    let long : ltb (length (front ++ rest)) count ≡ false = le-ltb _ _ (omega (arith, length-append front rest)) in
    rw (long, take_at front rest count len, drop_at front rest count len) refl

-- a label's length fits a byte
pub label_short : (label : List ℕ) → IsTrue (is_label label) → length label < 256
label_short label h = omega (arith, leb-true (length label) LABEL_BYTES (and_parts (leb (length label) LABEL_BYTES) _ h).0)

pub label_takes : (bytes : List ℕ) (x : List ℕ × List ℕ) → IsBytes bytes → take_label bytes ≡ Some x → Takes bytes (label_bytes x.0) x.1 × IsTrue (is_label x.0)
unfolding take_label
label_takes bytes x fits e =
    let a = bind_some (take_number 1 bytes) (λ count. take_bytes count.0 count.1 >>= λ label. where_true (is_label label.0) label) x e in
    let b = bind_some (take_bytes a.0.0 a.0.1) (λ label. where_true (is_label label.0) label) x a.2 in
    let g = where_some (is_label b.0.0) b.0 x b.2 in
    let t0 = number_takes 1 bytes a.0 fits a.1 in
    let t1 = bytes_take a.0.0 a.0.1 b.0 t0.0.rest_fits b.1 in
    let both : Takes bytes (field_bytes 1 a.0.0 ++ b.0.0) b.0.1 = Takes-then bytes (field_bytes 1 a.0.0) a.0.1 b.0.0 b.0.1 t0.0 t1.0 in
    let spelt : field_bytes 1 a.0.0 ++ b.0.0 ≡ label_bytes b.0.0 = ap (λ t. t ++ b.0.0) (byte_field a.0.0 (omega (arith, t0.1))) ∙ ap (λ (n : ℕ). n ∷ b.0.0) (sym t1.1) in
    subst (λ (y : List ℕ × List ℕ). Takes bytes (label_bytes y.0) y.1 × IsTrue (is_label y.0)) g.1 (subst (λ t. Takes bytes t b.0.1) spelt both, g.0)

pub label_taken : (label rest : List ℕ) → IsTrue (is_label label) → take_label (label_bytes label ++ rest) ≡ Some (label, rest)
unfolding take_label
label_taken label rest h =
    let short : length label < 256 = label_short label h in
    let spelt : label_bytes label ++ rest ≡ field_bytes 1 (length label) ++ (label ++ rest) = ap (λ t. t ++ (label ++ rest)) (sym (byte_field (length label) short)) in
    ap take_label spelt ∙ rw (number_taken 1 (length label) (label ++ rest) (omega (arith, short)), bytes_taken (length label) label rest refl, h) refl

IsBytes-rest : (b : ℕ) (bytes : List ℕ) → IsBytes (b ∷ bytes) → IsBytes bytes
IsBytes-rest b bytes h i = h (suc i)

pub declaration_takes : (bytes : List ℕ) (x : Option (List ℕ) × List ℕ) → IsBytes bytes → take_declaration bytes ≡ Some x → Takes bytes (declaration_bytes x.0) x.1 × LabelFits x.0
unfolding take_declaration
declaration_takes [] x fits e = absurd cc
declaration_takes (zero ∷ bytes) x fits e =
    subst (λ (y : Option (List ℕ) × List ℕ). Takes (0 ∷ bytes) (declaration_bytes y.0) y.1 × LabelFits y.0) (some_is (None, bytes) x e) (record { parts = refl; rest_fits = IsBytes-rest 0 bytes fits }, tt)
declaration_takes (suc zero ∷ bytes) x fits e =
    let b = bind_some (take_label bytes) (λ label. Some (Some label.0, label.1)) x e in
    let t = label_takes bytes b.0 (IsBytes-rest 1 bytes fits) b.1 in
    subst (λ (y : Option (List ℕ) × List ℕ). Takes (1 ∷ bytes) (declaration_bytes y.0) y.1 × LabelFits y.0) (some_is (Some b.0.0, b.0.1) x b.2) (record { parts = ap (λ (w : List ℕ). 1 ∷ w) t.0.parts; rest_fits = t.0.rest_fits }, t.1)
declaration_takes (suc (suc flag) ∷ bytes) x fits e = absurd cc

pub declaration_taken : (label : Option (List ℕ)) (rest : List ℕ) → LabelFits label → take_declaration (declaration_bytes label ++ rest) ≡ Some (label, rest)
unfolding take_declaration
declaration_taken None rest h = refl
declaration_taken (Some label) rest h = rw (label_taken label rest h) refl

pub mark_takes : (number : ℕ) (bytes : List ℕ) (x : Mark × List ℕ) → IsBytes bytes → take_mark number bytes ≡ Some x → Takes bytes (mark_bytes x.0) x.1 × ((x.0.number ≡ number) × MarkFits x.0)
unfolding take_mark
mark_takes number bytes x fits e =
    let a = bind_some (take_number 8 bytes) (λ start. take_label start.1 >>= λ label. Some (record { number = number; label = label.0; start = start.0 }, label.1)) x e in
    let b = bind_some (take_label a.0.1) (λ label. Some (record { number = number; label = label.0; start = a.0.0 }, label.1)) x a.2 in
    let t0 = number_takes 8 bytes a.0 fits a.1 in
    let t1 = label_takes a.0.1 b.0 t0.0.rest_fits b.1 in
    let both = Takes-then bytes (field_bytes 8 a.0.0) a.0.1 (label_bytes b.0.0) b.0.1 t0.0 t1.0 in
    let made : Mark × List ℕ = (record { number = number; label = b.0.0; start = a.0.0 }, b.0.1) in
    subst (λ (y : Mark × List ℕ). Takes bytes (mark_bytes y.0) y.1 × ((y.0.number ≡ number) × MarkFits y.0)) (some_is made x b.2) (both, (refl, record { label = t1.1; start = omega (arith, t0.1) }))

pub mark_number : (number : ℕ) (bytes : List ℕ) (x : Mark × List ℕ) → take_mark number bytes ≡ Some x → x.0.number ≡ number
unfolding take_mark
mark_number number bytes x e =
    let a = bind_some (take_number 8 bytes) (λ start. take_label start.1 >>= λ label. Some (record { number = number; label = label.0; start = start.0 }, label.1)) x e in
    let b = bind_some (take_label a.0.1) (λ label. Some (record { number = number; label = label.0; start = a.0.0 }, label.1)) x a.2 in
    let made : Mark × List ℕ = (record { number = number; label = b.0.0; start = a.0.0 }, b.0.1) in
    sym (ap (λ (y : Mark × List ℕ). y.0.number) (some_is made x b.2))

pub mark_taken : (mark : Mark) (rest : List ℕ) → MarkFits mark → take_mark mark.number (mark_bytes mark ++ rest) ≡ Some (mark, rest)
unfolding take_mark
mark_taken mark rest fits =
    let regrouped : mark_bytes mark ++ rest ≡ field_bytes 8 mark.start ++ (label_bytes mark.label ++ rest) = append_assoc (field_bytes 8 mark.start) (label_bytes mark.label) rest in
    ap (take_mark mark.number) regrouped ∙ rw (number_taken 8 mark.start (label_bytes mark.label ++ rest) (omega (arith, fits.start)), label_taken mark.label rest fits.label) refl

pub page_takes : (version : Version) (least : ℕ) (bytes : List ℕ) (x : ℕ × List ℕ) → IsBytes bytes → take_page version least bytes ≡ Some x
    → Takes bytes (field_bytes (page_width version) x.0) x.1 × ((least ≤ x.0) × (x.0 < 256 ^ page_width version))
unfolding take_page
page_takes version least bytes x fits e =
    let a = bind_some (take_number (page_width version) bytes) (λ page. where_true (leb least page.0) page) x e in
    let g = where_some (leb least a.0.0) a.0 x a.2 in
    let t = number_takes (page_width version) bytes a.0 fits a.1 in
    subst (λ (y : ℕ × List ℕ). Takes bytes (field_bytes (page_width version) y.0) y.1 × ((least ≤ y.0) × (y.0 < 256 ^ page_width version))) g.1 (t.0, (leb-true least a.0.0 g.0, t.1))

pub page_taken : (version : Version) (least page : ℕ) (rest : List ℕ) → least ≤ page → page < 256 ^ page_width version → take_page version least (field_bytes (page_width version) page ++ rest) ≡ Some (page, rest)
unfolding take_page
page_taken version least page rest up fits = rw (number_taken (page_width version) page rest fits, le-leb least page up) refl

pub image_takes : (version : Version) (least : ℕ) (bytes : List ℕ) (x : PageImage × List ℕ) → IsBytes bytes → take_image version least bytes ≡ Some x
    → Takes bytes (write_bytes version x.0) x.1 × ((least ≤ x.0.page) × WriteFits version x.0)
unfolding take_image
image_takes version least bytes x fits e =
    let a = bind_some (take_page version least bytes) (λ page. take_bytes PAGE_BYTES page.1 >>= λ image. Some (record { page = page.0; bytes = image.0 }, image.1)) x e in
    let b = bind_some (take_bytes PAGE_BYTES a.0.1) (λ image. Some (record { page = a.0.0; bytes = image.0 }, image.1)) x a.2 in
    let t0 = page_takes version least bytes a.0 fits a.1 in
    let t1 = bytes_take PAGE_BYTES a.0.1 b.0 t0.0.rest_fits b.1 in
    let both = Takes-then bytes (field_bytes (page_width version) a.0.0) a.0.1 b.0.0 b.0.1 t0.0 t1.0 in
    let made : PageImage × List ℕ = (record { page = a.0.0; bytes = b.0.0 }, b.0.1) in
    subst (λ (y : PageImage × List ℕ). Takes bytes (write_bytes version y.0) y.1 × ((least ≤ y.0.page) × WriteFits version y.0)) (some_is made x b.2) (both, (t0.1.0, record { page = t0.1.1; whole = t1.1 }))

pub image_taken : (version : Version) (least : ℕ) (image : PageImage) (rest : List ℕ) → least ≤ image.page → WriteFits version image → take_image version least (write_bytes version image ++ rest) ≡ Some (image, rest)
unfolding take_image
image_taken version least image rest up fits =
    let regrouped : write_bytes version image ++ rest ≡ field_bytes (page_width version) image.page ++ (image.bytes ++ rest) = append_assoc (field_bytes (page_width version) image.page) image.bytes rest in
    ap (take_image version least) regrouped ∙ rw (page_taken version least image.page (image.bytes ++ rest) up fits.page, bytes_taken PAGE_BYTES image.bytes rest fits.whole) refl

image_least : (version : Version) (least : ℕ) (bytes : List ℕ) (x : PageImage × List ℕ) → take_image version least bytes ≡ Some x → leb least x.0.page ≡ true
unfolding take_image take_page
image_least version least bytes x e =
    let a = bind_some (take_page version least bytes) (λ page. take_bytes PAGE_BYTES page.1 >>= λ image. Some (record { page = page.0; bytes = image.0 }, image.1)) x e in
    let b = bind_some (take_bytes PAGE_BYTES a.0.1) (λ image. Some (record { page = a.0.0; bytes = image.0 }, image.1)) x a.2 in
    let p = bind_some (take_number (page_width version) bytes) (λ page. where_true (leb least page.0) page) a.0 a.1 in
    let g = where_some (leb least p.0.0) p.0 a.0 p.2 in
    let made : PageImage × List ℕ = (record { page = a.0.0; bytes = b.0.0 }, b.0.1) in
    let is : p.0.0 ≡ x.0.page = ap (λ (y : ℕ × List ℕ). y.0) g.1 ∙ ap (λ (y : PageImage × List ℕ). y.0.page) (some_is made x b.2) in
    ap (leb least) (sym is) ∙ g.0

-- images that were read rise
pub images_rise : (version : Version) (count least : ℕ) (bytes : List ℕ) (x : List PageImage × List ℕ) → take_list (take_image version) after_image count least bytes ≡ Some x → rises least (pages_of x.0) ≡ true
unfolding take_list
images_rise version zero least bytes x e = ap (λ (y : List PageImage × List ℕ). rises least (pages_of y.0)) (sym (some_is ([], bytes) x e))
images_rise version (suc count) least bytes x e =
    let a = bind_some (take_image version least bytes) (λ first. take_list (take_image version) after_image count (after_image first.0) first.1 >>= λ others. Some (first.0 ∷ others.0, others.1)) x e in
    let b = bind_some (take_list (take_image version) after_image count (after_image a.0.0) a.0.1) (λ others. Some (a.0.0 ∷ others.0, others.1)) x a.2 in
    let made : List PageImage × List ℕ = (a.0.0 ∷ b.0.0, b.0.1) in
    ap (λ (y : List PageImage × List ℕ). rises least (pages_of y.0)) (sym (some_is made x b.2)) ∙ and_from _ _ (image_least version least bytes a.0 a.1) (images_rise version count (after_image a.0.0) a.0.1 b.0 b.1)
