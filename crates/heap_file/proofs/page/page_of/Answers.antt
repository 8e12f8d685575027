use Rattle.std.proofs.Common.{◌≡◌, ◌++◌, replicate, refl, arith}
use Rattle.std.proofs.lemmas.Bool.{leb-true}
use Rattle.retro_base.specs.Fields.{field_bytes}
use Rattle.heap_file.specs.HeapPage.{entry_bytes, header}
use Rattle.heap_file.specs.declared.page.TheConstants.{ENTRY_BYTES}
use Rattle.heap_file.proofs.Packing.{entries-few, behind_header}
use Rattle.heap_file.proofs.page.page_of.Goals as goal

pub overflow_cast-len : goal.overflow_cast-len
overflow_cast-len c =
    let few = entries-few c.args.held.now.entries in omega (arith, leb-true _ _ c.requires.fits)

pub returns-clause-page : goal.returns-clause-page
unfolding field_bytes
returns-clause-page c =
    let held = c.args.held.now in
    let items : entry_bytes held.entries ≡ c.in_ok-entries.entries.items = cc (c.in_ok-entries.ensures.bytes, c.as_slice.ensures) in
    let front : c.put_u32-2.new.self ≡ header held ++ replicate ENTRY_BYTES 0 = rw (c.put_u32-2.ensures.replaced, c.put_u64.ensures.replaced, c.put_u32.ensures.replaced, c.put_u16.ensures.replaced, c.put_bytes.ensures, c.zero-page.ensures, c.len.ensures) refl in
    rw (c.put_bytes-2.ensures, c.deref.ensures.value, ← items, front) (behind_header held)
