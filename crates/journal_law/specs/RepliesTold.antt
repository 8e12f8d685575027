-- What a session has to know of an item that has ended, so that what it tells is the item's reply.
use Rattle.std.specs.Prelude.{◌≡◌, ◌+◌, ◌++◌, ℕ, true, List, [], ◌∷◌, Option}
use Rattle.retro_base.specs.declared.device.Device.{Device}
use Rattle.retro_base.specs.declared.refusal.Refusal.{Refusal}
use Rattle.retro_base.specs.declared.refusal.Refusal.TheVariants.{DiskFault, Overlap}
use Rattle.retro_base.specs.declared.who.Who.{Who}
use Rattle.history.specs.declared.journal.FailedCall.{FailedCall}
use Rattle.history.specs.declared.journal.Line.{Line}
use Rattle.history.specs.declared.journal.What.{What}
use Rattle.history.specs.declared.journal.What.TheVariants.{Done, Overlapped, RolledBack}
use Rattle.history.specs.declared.journal.What.TheVariants.{Unlooked, Dropped, Refused, Fault}
use Rattle.history.specs.declared.writes.PageImage.{PageImage}
use Rattle.history.specs.Lines.{begins}
use Rattle.journal_law.specs.Fates.{IsReply, answer_text}
use Rattle.journal_law.specs.Language.{Language, answer}
use Rattle.journal_law.specs.Own.{SinceLine, line, own}
use Rattle.journal_law.specs.Pages.{Pages, page_world}
use Rattle.journal_law.specs.Shows.{Shows}
use Rattle.journal_law.specs.World.{World, newest}

-- for each item
abbrev pub OfEachItem : (L : Language) → ((Who → Option L.Item) → World Pages → Who → L.Item → Type 0) → Type 0
OfEachItem L P = (items : Who → Option L.Item) (pages : World Pages) (who : Who) (item : L.Item)
    → P items pages who item

pub record RepliesTold (L : Language) : Type 0 where
  -- the replies of the statements over the tables at the commit's place, and the number that follows the newest
  -- snapshot there
  pub committed : OfEachItem L
      (λ items pages who item. (before : List Line) (label : Option (List ℕ)) (writes : List PageImage) (text : List ℕ)
      (number : ℕ)
      → ((tables : L.Tables) → L.IsStored (page_world pages before).current tables → text ≡ L.replies item tables)
      → number ≡ newest (page_world pages before) + 1
      → IsReply L items pages who item (before ++ line who (Done label writes) ∷ [])
      (text ++ (L.words item).committed number label))
  -- those over the tables where the attempt began
  pub rolled_back : OfEachItem L
      (λ items pages who item. (opened : What) → begins opened ≡ true → (before since rest : List Line)
      → SinceLine who opened before since rest → (text : List ℕ)
      → ((tables : L.Tables) → L.IsStored (page_world pages since).current tables → text ≡ L.replies item tables) →
      IsReply L items pages who item (before ++ line who RolledBack ∷ []) (text ++ (L.words item).rolled_back))
  -- the answer in the world where it looked
  pub answered : OfEachItem L
      (λ items pages who item. (opened : What) → begins opened ≡ true → (before since rest : List Line)
      → SinceLine who opened before since rest → (text : List ℕ)
      → ((w : World L.Tables) → Shows L (page_world pages since) w → text ≡ answer_text L item (answer L item w)) →
      IsReply L items pages who item (before ++ line who Unlooked ∷ []) text)
  pub refused : OfEachItem L
      (λ items pages who item. (before : List Line) (why : Refusal)
      → IsReply L items pages who item (before ++ line who (Refused why) ∷ []) ((L.words item).refused why))
  pub overlapped : OfEachItem L (λ items pages who item. (before : List Line) (session other : ℕ) →
      IsReply L items pages who item (before ++ line who (Overlapped session other) ∷ [])
      ((L.words item).refused (Overlap session other)))
  pub failed : OfEachItem L
      (λ items pages who item. (before : List Line) (device : Device) (count : ℕ) (call : FailedCall)
      → IsReply L items pages who item (before ++ line who (Fault device count call) ∷ [])
      ((L.words item).refused (DiskFault device count)))
  pub dropped : OfEachItem L
      (λ items pages who item. (before : List Line) (below : ℕ)
      → IsReply L items pages who item (before ++ line who (Dropped below) ∷ []) ((L.words item).dropped below))
  -- it stays the reply while the journal grows by lines that are not the item's
  pub stays : OfEachItem L
      (λ items pages who item. (front more : List Line) (text : List ℕ) → own who more ≡ []
      → IsReply L items pages who item front text → IsReply L items pages who item (front ++ more) text)
