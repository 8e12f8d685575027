use Rattle.std.proofs.Common.{◌≡◌, ◌∙◌, true, List, sym, ap, subst, arith}
use Rattle.std.specs.Prelude.{insert}
use Rattle.history.specs.declared.writes.PageImage.{PageImage}
use Rattle.history.specs.Writes.{pages_of, rises}
use Rattle.journal_book.specs.Works.{GoesTo, IsThere, with_edit}
use Rattle.journal_book.proofs.EditLists.{edit_there, edit_goes, edit_rises}
use Rattle.plain_store.proofs.edits.with_edit.Goals as goal

pub new-requires : goal.new-requires
new-requires c =
    let images : List PageImage = c.into_images-images.result.items in
    let there : IsThere c.args.image.page images c.in-Ok.place = subst (λ (l : List PageImage). IsThere c.args.image.page l c.in-Ok.place) c.deref.ensures.value c.in-Ok.ensures in
    subst (λ (l : List PageImage). rises 0 (pages_of l) ≡ true) (edit_there c.args.image images c.in-Ok.place there) (edit_rises 0 c.args.image images (subst (λ (l : List PageImage). rises 0 (pages_of l) ≡ true) (sym c.into_images-images.ensures.value) c.into_images-images.ensures.rising) (omega arith))

pub returns-in-Ok-clause-done : goal.returns-in-Ok-clause-done
returns-in-Ok-clause-done c =
    let images : List PageImage = c.into_images-images.result.items in
    let there : IsThere c.args.image.page images c.in-Ok.place = subst (λ (l : List PageImage). IsThere c.args.image.page l c.in-Ok.place) c.deref.ensures.value c.in-Ok.ensures in
    c.new.ensures ∙ sym (edit_there c.args.image images c.in-Ok.place there) ∙ ap (with_edit c.args.image) c.into_images-images.ensures.value

pub new-requires-in-Ok-insert : goal.new-requires-in-Ok-insert
new-requires-in-Ok-insert c =
    let images : List PageImage = c.into_images-images.result.items in
    let goes : GoesTo c.args.image.page images c.in-Err.place = subst (λ (l : List PageImage). GoesTo c.args.image.page l c.in-Err.place) c.deref.ensures.value c.in-Err.ensures in
    let made : c.insert.new.self.items ≡ insert images c.in-Err.place c.args.image = c.in-Ok-insert.ensures.items in
    subst (λ (l : List PageImage). rises 0 (pages_of l) ≡ true) (edit_goes c.args.image images c.in-Err.place goes ∙ sym made) (edit_rises 0 c.args.image images (subst (λ (l : List PageImage). rises 0 (pages_of l) ≡ true) (sym c.into_images-images.ensures.value) c.into_images-images.ensures.rising) (omega arith))

pub returns-in-Ok-insert-clause-done : goal.returns-in-Ok-insert-clause-done
returns-in-Ok-insert-clause-done c =
    let images : List PageImage = c.into_images-images.result.items in
    let goes : GoesTo c.args.image.page images c.in-Err.place = subst (λ (l : List PageImage). GoesTo c.args.image.page l c.in-Err.place) c.deref.ensures.value c.in-Err.ensures in
    let made : c.insert.new.self.items ≡ insert images c.in-Err.place c.args.image = c.in-Ok-insert.ensures.items in
    c.new-in-Ok-insert.ensures ∙ made ∙ sym (edit_goes c.args.image images c.in-Err.place goes) ∙ ap (with_edit c.args.image) c.into_images-images.ensures.value
