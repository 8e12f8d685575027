use Rattle.std.proofs.Common.{◌≡◌, ◌∙◌, ◌++◌, ◌∷◌, [], ℕ, List, length, ap, arith}
use Rattle.std.specs.List.{flat_map}
use Rattle.std.proofs.lemmas.List.{append_assoc}
use Rattle.retro_base.specs.Fields.{field_bytes}
use Rattle.history.specs.declared.entry.Change.TheVariants.{Commit}
use Rattle.history.specs.declared.writes.PageImage.{PageImage}
use Rattle.records.specs.Entries.{change_bytes, declaration_bytes, write_bytes}
use Rattle.records.proofs.Short.{changes_are_short}
use Rattle.records.proofs.encoding.encode_commit.Goals as goal

pub finish-requires : goal.finish-requires
finish-requires c =
    let version = c.args.version in
    let writes = c.args.writes.now in
    let declaration : List ℕ = declaration_bytes c.args.label.now in
    let count : List ℕ = field_bytes 2 (length writes) in
    let images : List ℕ = flat_map (write_bytes version) writes in
    let counted : length c.images-images.result.now ≡ length writes = ap (λ (l : List PageImage). length l) c.images-images.ensures.value in
    let joined : c.put_writes.new.out ≡ ((2 ∷ declaration) ++ count) ++ images =
    c.in_ok-put_writes.ensures.bytes
    ∙ ap (λ (l : List PageImage). c.put_u16.new.self ++ flat_map (write_bytes version) l) c.images-images.ensures.value
    ∙ ap (λ (l : List ℕ). l ++ images)
    (c.in_ok-put_u16.ensures.bytes
    ∙ ap (λ (n : ℕ). c.put_declaration.new.out ++ field_bytes 2 n) counted
    ∙ ap (λ (l : List ℕ). l ++ count)
    (c.in_ok-put_declaration.ensures.bytes ∙ ap (λ (l : List ℕ). l ++ declaration) (c.in_ok-push.ensures.ok ∙ ap (λ (l : List ℕ). l ++ 2 ∷ []) c.in_ok-out.ensures.ok))) in
    let whole : c.put_writes.new.out ≡ change_bytes version (Commit c.args.label.now writes) = joined ∙ append_assoc (2 ∷ declaration) count images in
    omega (arith, ap (λ (l : List ℕ). length l) whole, changes_are_short version (Commit c.args.label.now writes) c.requires)
