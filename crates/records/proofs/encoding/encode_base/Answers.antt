use Rattle.std.proofs.Common.{◌≡◌, ◌∙◌, ◌^◌, ◌<◌, ◌++◌, ℕ, List, length, ap, arith, subst, sym, append_assoc}
use Rattle.std.specs.List.{AllByRecursion, flat_map}
use Rattle.history.specs.declared.entry.Mark.{Mark}
use Rattle.retro_base.specs.Fields.{field_bytes}
use Rattle.records.specs.Entries.{page_width, sizes_bytes, counts_bytes, mark_bytes, base_bytes}
use Rattle.records.proofs.Short.{bases_are_short, captured_few}
use Rattle.records.proofs.encoding.encode_base.Goals as goal

pub with_capacity-requires : goal.with_capacity-requires
with_capacity-requires c = omega (
  arith,
  ap (λ (l : List Mark). length l) c.as_slice-marks.ensures,
  ap (λ (l : List ℕ). length l) c.as_slice-captured.ensures,
  c.requires.right.limits.retained,
  captured_few c.args.base.now c.requires.right,
)

pub put_pages-requires : goal.put_pages-requires
put_pages-requires c = subst (λ (pages : List ℕ). AllByRecursion (λ page. page < 256 ^ page_width c.args.version) pages) (sym c.as_slice-captured.ensures) c.requires.fits.pages

pub finish-requires : goal.finish-requires
finish-requires c =
    let version = c.args.version in
    let base = c.args.base.now in
    let sizes : List ℕ = sizes_bytes version base in
    let counts : List ℕ = counts_bytes base in
    let marks : List ℕ = flat_map mark_bytes c.as_slice-marks.result.now in
    let captured : List ℕ = flat_map (field_bytes (page_width version)) c.as_slice-captured.result.now in
    let joined : c.put_pages.new.out ≡ ((sizes ++ counts) ++ marks) ++ captured =
    c.in_ok-put_pages.ensures.bytes ∙ ap (λ (l : List ℕ). l ++ captured) (c.in_ok-put_marks.ensures.bytes ∙ ap (λ (l : List ℕ). l ++ marks) (c.in_ok-put_counts.ensures.bytes ∙ ap (λ (l : List ℕ). l ++ counts) (c.in_ok-put_sizes.ensures.bytes ∙ ap (λ (l : List ℕ). l ++ sizes) c.in_ok-out.ensures.ok))) in
    let whole : c.put_pages.new.out ≡ base_bytes version base =
    joined ∙ append_assoc (sizes ++ counts) marks captured ∙ append_assoc sizes counts (marks ++ captured)
    ∙ ap (λ (l : List Mark). sizes ++ (counts ++ (flat_map mark_bytes l ++ captured))) c.as_slice-marks.ensures
    ∙ ap (λ (l : List ℕ). sizes ++ (counts ++ (flat_map mark_bytes base.marks ++ flat_map (field_bytes (page_width version)) l))) c.as_slice-captured.ensures in
    omega (arith, ap (λ (l : List ℕ). length l) whole, bases_are_short version base c.requires.fits c.requires.right)
