-- What a session tells of an item is its reply, by the item's last line.
use Rattle.std.proofs.Common.{◌≡◌, ◌+◌, ◌++◌, ℕ, Bool, true, false, cond, List, [], ◌∷◌, Option, Some, None, refl, ap, sym, subst, ◌∙◌}
use Rattle.std.specs.Option.{option_map_or}
use Rattle.retro_base.specs.declared.device.Device.{Device}
use Rattle.retro_base.specs.declared.refusal.Refusal.{Refusal}
use Rattle.retro_base.specs.declared.refusal.Refusal.TheVariants as refusal
use Rattle.retro_base.specs.declared.who.Who.{Who}
use Rattle.history.specs.declared.journal.FailedCall.{FailedCall}
use Rattle.history.specs.declared.journal.Line.{Line}
use Rattle.history.specs.declared.journal.What.{What}
use Rattle.history.specs.declared.journal.What.TheVariants.{Done, Overlapped, RolledBack, Unlooked, Dropped, Refused, Fault}
use Rattle.history.specs.declared.writes.PageImage.{PageImage}
use Rattle.history.specs.Lines.{begins}
use Rattle.journal_law.specs.Fates.{Fate, IsReply, answer_text, began_of, fate, fate_with, reply, reply_at}
use Rattle.journal_law.specs.Language.{Language, answer}
use Rattle.journal_law.specs.Own.{SinceLine, line, own}
use Rattle.journal_law.specs.Pages.{Pages, page_world}
use Rattle.journal_law.specs.RepliesTold.{RepliesTold}
use Rattle.journal_law.specs.Shows.{Shows, ShowsAlong, world}
use Rattle.journal_law.specs.World.{World, newest}
use Rattle.journal_law.proofs.Journal.{along_end, along_front, fate_append}
use Rattle.journal_law.proofs.Lasts.{began_there, fate_line, no_fate_own}
use Rattle.journal_law.proofs.Marks.{newest_same}

module _ (L : Language) (items : Who → Option L.Item) (pages : World Pages) (who : Who) (item : L.Item) where
  -- the reply of an item whose last line does not ask where it began
  by_last : (tables : World L.Tables) (before : List Line) (what : What) (text : List ℕ)
      → ((began : Option (World L.Tables)) → text ≡ reply_at L item (record { now = world L items tables before; last = what; began = began }) what)
      → text ≡ reply L item (fate L items who tables (before ++ line who what ∷ []))
  by_last tables before what text is =
      is (cond (begins what) (Some (world L items tables before)) (began_of (fate L items who tables before)))
      ∙ ap (reply L item) (sym (fate_line L items who what tables before))

  module _ (before : List Line) where
    pub committed : (label : Option (List ℕ)) (writes : List PageImage) (text : List ℕ) (number : ℕ)
        → ((tables : L.Tables) → L.IsStored (page_world pages before).current tables → text ≡ L.replies item tables)
        → number ≡ newest (page_world pages before) + 1
        → IsReply L items pages who item (before ++ line who (Done label writes) ∷ []) (text ++ (L.words item).committed number label)
    committed label writes text number told is tables along =
        let shows = along_end L items pages tables before (along_front L items pages tables before (line who (Done label writes) ∷ []) along) in
        let now = world L items tables before in
        let count : number ≡ newest now + 1 = is ∙ ap (λ (n : ℕ). n + 1) (newest_same L 0 (page_world pages before).marks now.marks shows.marks) in
        by_last tables before (Done label writes) (text ++ (L.words item).committed number label)
        (λ began. ap (λ (x : List ℕ). x ++ (L.words item).committed number label) (told now.current shows.current) ∙ ap (λ (n : ℕ). L.replies item now.current ++ (L.words item).committed n label) count)

    pub refused : (why : Refusal) → IsReply L items pages who item (before ++ line who (Refused why) ∷ []) ((L.words item).refused why)
    refused why tables along = by_last tables before (Refused why) ((L.words item).refused why) (λ began. refl)

    pub overlapped : (session other : ℕ) → IsReply L items pages who item (before ++ line who (Overlapped session other) ∷ []) ((L.words item).refused (refusal.Overlap session other))
    overlapped session other tables along = by_last tables before (Overlapped session other) ((L.words item).refused (refusal.Overlap session other)) (λ began. refl)

    pub failed : (device : Device) (count : ℕ) (call : FailedCall) → IsReply L items pages who item (before ++ line who (Fault device count call) ∷ []) ((L.words item).refused (refusal.DiskFault device count))
    failed device count call tables along = by_last tables before (Fault device count call) ((L.words item).refused (refusal.DiskFault device count)) (λ began. refl)

    pub dropped : (below : ℕ) → IsReply L items pages who item (before ++ line who (Dropped below) ∷ []) ((L.words item).dropped below)
    dropped below tables along = by_last tables before (Dropped below) ((L.words item).dropped below) (λ began. refl)

  -- a line that opens nothing leaves where the item began
  began_behind : (tables : World L.Tables) (before : List Line) (what : What) (w : World L.Tables) → begins what ≡ false → began_of (fate L items who tables before) ≡ Some w
      → (f : Fate L.Tables) × (fate L items who tables (before ++ line who what ∷ []) ≡ Some f) × (f.last ≡ what) × (f.began ≡ Some w)
  began_behind tables before what w closes is = (
    fate_with (world L items tables before) what (fate L items who tables before),
    fate_line L items who what tables before,
    refl,
    ap (λ (opens : Bool). cond opens (Some (world L items tables before)) (began_of (fate L items who tables before))) closes ∙ is,
  )

  -- the world in which it began is that of its last opening line
  module _ (opened : What) (opens : begins opened ≡ true) (before since rest : List Line) (at : SinceLine who opened before since rest) where
    there : (tables : World L.Tables) (what : What) → begins what ≡ false
        → (f : Fate L.Tables) × (fate L items who tables (before ++ line who what ∷ []) ≡ Some f) × (f.last ≡ what) × (f.began ≡ Some (world L items tables since))
    there tables what closes = began_behind tables before what (world L items tables since) closes (began_there L items who opened tables before since rest opens at)

    stood : (tables : World L.Tables) (what : What) → ShowsAlong L items pages tables (before ++ line who what ∷ []) → Shows L (page_world pages since) (world L items tables since)
    stood tables what along =
        along_end L items pages tables since
        (along_front L items pages tables since (line who opened ∷ [])
        (along_front L items pages tables (since ++ line who opened ∷ []) rest
        (subst (ShowsAlong L items pages tables) at.whole (along_front L items pages tables before (line who what ∷ []) along))))

    -- a rollback's replies are those over the tables with which its attempt began
    pub rolled_back : (text : List ℕ) → ((tables : L.Tables) → L.IsStored (page_world pages since).current tables → text ≡ L.replies item tables)
        → IsReply L items pages who item (before ++ line who RolledBack ∷ []) (text ++ (L.words item).rolled_back)
    rolled_back text told tables along =
        let f = there tables RolledBack refl in
        let shows = stood tables RolledBack along in
        ap (λ (x : List ℕ). x ++ (L.words item).rolled_back) (told (world L items tables since).current shows.current)
        ∙ ap (λ (o : Option (World L.Tables)). L.replies item (option_map_or (λ (w : World L.Tables). w) o f.0.now).current ++ (L.words item).rolled_back) (sym f.3)
        ∙ ap (reply_at L item f.0) (sym f.2)
        ∙ ap (reply L item) (sym f.1)

    -- a look's reply is the answer in the world in which it looked
    pub answered : (text : List ℕ) → ((w : World L.Tables) → Shows L (page_world pages since) w → text ≡ answer_text L item (answer L item w))
        → IsReply L items pages who item (before ++ line who Unlooked ∷ []) text
    answered text told tables along =
        let f = there tables Unlooked refl in
        let shows = stood tables Unlooked along in
        told (world L items tables since) shows
        ∙ ap (λ (o : Option (World L.Tables)). answer_text L item (answer L item (option_map_or (λ (w : World L.Tables). w) o f.0.now))) (sym f.3)
        ∙ ap (reply_at L item f.0) (sym f.2)
        ∙ ap (reply L item) (sym f.1)

  -- what was told of an item stays its reply while the journal grows by other lines
  pub reply_stays : (front more : List Line) (text : List ℕ) → own who more ≡ [] → IsReply L items pages who item front text → IsReply L items pages who item (front ++ more) text
  reply_stays front more text none is tables along =
      is tables (along_front L items pages tables front more along)
      ∙ ap (reply L item) (sym (fate_append L items who tables None front more ∙ no_fate_own L items who (world L items tables front) (fate L items who tables front) more none))

pub replies_told : (L : Language) → RepliesTold L
replies_told L = record {
  committed = committed L;
  rolled_back = rolled_back L;
  answered = answered L;
  refused = refused L;
  overlapped = overlapped L;
  failed = failed L;
  dropped = dropped L;
  stays = reply_stays L;
}
