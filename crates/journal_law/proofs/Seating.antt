-- What the calls of a seat leave.
use Rattle.std.proofs.Common.{◌≡◌, ◌++◌, ℕ, List, [], ◌∷◌, Option, Ok, refl, ap, sym, subst, ◌∙◌, append_assoc, append-nil}
use Rattle.retro_base.specs.declared.refusal.Refusal.{Refusal}
use Rattle.retro_base.specs.declared.who.Who.{Who}
use Rattle.history.specs.declared.entry.Mark.{Mark as MarkOf}
use Rattle.history.specs.declared.journal.Line.{Line}
use Rattle.history.specs.declared.journal.What.{What}
use Rattle.history.specs.declared.journal.What.TheVariants.{Began, Done, Dropped, Looked, LookedAll, Unlooked}
use Rattle.journal_law.specs.Facts.{AreOthers, Fits, OwnFit}
use Rattle.journal_law.specs.Language.{AsOf, Commit, DropBelow, End, Language, OverAll, Transaction}
use Rattle.journal_law.specs.Lawful.{Ground, MeetsLimit}
use Rattle.journal_law.specs.LinesFit.{Answers, LookAt, kind_at, opened_by}
use Rattle.journal_law.specs.Own.{SinceLine, line, own}
use Rattle.journal_law.specs.Pages.{page_world}
use Rattle.journal_law.specs.Seating.{IsOwn, Makes, Sane, SeatsSuffice}
use Rattle.journal_law.specs.Seats.{Attempt, BeginGives, CommitGives, DropGives, Look, LookAllGives, LookGives, Moves, UnlookGives, View, lines_before}
use Rattle.journal_law.specs.World.{as_of}
use Rattle.journal_law.specs.declared.seat.Ending.TheVariants as ending
use Rattle.journal_law.proofs.Journal.{own_others}
use Rattle.journal_law.proofs.Lasts.{since_stays}
use Rattle.journal_law.proofs.LineFacts.{began_fits, done_fits, dropped_fits, looked_all_fits, looked_fits, unlooked_fits}

module _ (L : Language) (items : Who → Option L.Item) where
  fit_others : (ground : Ground) (session : ℕ) (done front others : List Line) → OwnFit L items ground session done front → AreOthers session others → OwnFit L items ground session done (front ++ others)
  fit_others ground session done [] [] fits apart = tt
  fit_others ground session done [] (line ∷ others) fits apart = (λ mine. absurd (apart.0 mine), fit_others ground session (done ++ line ∷ []) [] others tt apart.1)
  fit_others ground session done (line ∷ front) others fits apart = (fits.0, fit_others ground session (done ++ line ∷ []) front others fits.1 apart)

  fit_line : (ground : Ground) (session : ℕ) (done front : List Line) (one : Line) → OwnFit L items ground session done front → Fits L items ground (done ++ front) one → OwnFit L items ground session done (front ++ one ∷ [])
  fit_line ground session done [] one fits fit = (λ mine. subst (λ (ls : List Line). Fits L items ground ls one) (append-nil done) fit, tt)
  fit_line ground session done (line ∷ front) one fits fit =
      (fits.0, fit_line ground session (done ++ line ∷ []) front one fits.1 (subst (λ (ls : List Line). Fits L items ground ls one) (sym (append_assoc done (line ∷ []) front)) fit))

  carry : (old new : View) (lines : List Line) → new.session ≡ old.session → new.opened ≡ old.opened → new.front ≡ lines → OwnFit L items old.opened old.session [] lines → Sane L items new
  carry old new lines s g f fits = rw (s, g, f) fits

  pub waits : (old new : View) → Moves old new [] → Sane L items old → Sane L items new
  waits old new moves sane =
      carry old new (old.front ++ moves.others) moves.session moves.opened (moves.front ∙ append-nil (old.front ++ moves.others))
      (fit_others old.opened old.session [] old.front moves.others sane moves.apart)

  pub adds : (old new : View) (who : Who) (what : What) (moves : Moves old new (line who what ∷ [])) → Fits L items old.opened (lines_before old new moves) (line who what) → Sane L items old → Sane L items new
  adds old new who what moves fit sane =
      carry old new ((old.front ++ moves.others) ++ line who what ∷ []) moves.session moves.opened moves.front
      (fit_line old.opened old.session [] (old.front ++ moves.others) (line who what) (fit_others old.opened old.session [] old.front moves.others sane moves.apart) fit)

  just_there : (who : Who) (what : What) (front since : List Line) → front ≡ since ++ line who what ∷ [] → SinceLine who what front since []
  just_there who what front since e = record { whole = e ∙ sym (append-nil (since ++ line who what ∷ [])); none = refl }

  pub begin : (old new : View) (who : Who) (item : L.Item) (end : End) → IsOwn L items old who item → L.kind item ≡ Transaction end → BeginGives who old new (Ok tt) → Sane L items old →
      Sane L items new × ((since : List Line) × SinceLine who Began new.front since [])
  begin old new who item end own_item e gives sane =
      (adds old new who Began gives.1.moves (began_fits L items old.opened (lines_before old new gives.1.moves) who item own_item.is end e) sane, (gives.0, just_there who Began new.front gives.0 gives.2))

  pub commit : (old new : View) (a : Attempt) (item : L.Item) (label : Option (List ℕ)) (number : Option ℕ) → IsOwn L items old a.who item → L.kind item ≡ Transaction (Commit label) →
      Makes L items old a item → CommitGives label old new a (Ok number) → Sane L items old → Sane L items new
  commit old new a item label number own_item e makes gives sane =
      let before = lines_before old new gives.0.adds.moves in
      adds old new a.who (Done label a.edits) gives.0.adds.moves
      (done_fits L items old.opened before a.who item own_item.is label a.edits e
      (λ tables stored. makes (page_world old.opened.pages before).current tables gives.0.agree stored) gives.2)
      sane

  -- the lines before the own one, told in two ways
  same_since : (xs ys : List Line) (one : Line) → xs ++ one ∷ [] ≡ ys ++ one ∷ [] → xs ≡ ys
  same_since [] [] one e = refl
  same_since [] (y ∷ []) one e = cc
  same_since [] (y ∷ z ∷ ys) one e = cc
  same_since (x ∷ []) [] one e = cc
  same_since (x ∷ z ∷ xs) [] one e = cc
  same_since (x ∷ xs) (y ∷ ys) one e =
      let first : x ≡ y = cc in
      let rest : xs ++ one ∷ [] ≡ ys ++ one ∷ [] = cc in
      ap (λ (l : Line). l ∷ xs) first ∙ ap (λ (ls : List Line). y ∷ ls) (same_since xs ys one rest)

  pub look : (old new : View) (who : Who) (item : L.Item) (n : ℕ) → IsOwn L items old who item → L.kind item ≡ AsOf n → LookGives who n old new (Ok tt) → Sane L items old →
      Sane L items new × ((since : List Line) × SinceLine who (Looked n) new.front since [])
  look old new who item n own_item e gives sane =
      let moves = gives.1.moves in
      let same : gives.0 ≡ lines_before old new moves = same_since gives.0 (lines_before old new moves) (line who (Looked n)) (sym gives.2 ∙ moves.front) in
      let held : as_of n (page_world old.opened.pages (lines_before old new moves)) ≡ Ok gives.3.0 = ap (λ (ls : List Line). as_of n (page_world old.opened.pages ls)) (sym same) ∙ gives.3.1 in
      (adds old new who (Looked n) moves (looked_fits L items old.opened (lines_before old new moves) who item own_item.is n gives.3.0 e held) sane, (gives.0, just_there who (Looked n) new.front gives.0 gives.2))

  pub look_all : (old new : View) (who : Who) (item : L.Item) (marks : List MarkOf) → IsOwn L items old who item → L.kind item ≡ OverAll → LookAllGives who old new (Ok marks) → Sane L items old →
      Sane L items new × ((since : List Line) × SinceLine who LookedAll new.front since [])
  look_all old new who item marks own_item e gives sane =
      (adds old new who LookedAll gives.1.moves (looked_all_fits L items old.opened (lines_before old new gives.1.moves) who item own_item.is e) sane, (gives.0, just_there who LookedAll new.front gives.0 gives.2))

  pub unlook : (old new : View) (l : Look) (item : L.Item) (look : LookAt) (since rest : List Line) (text : List ℕ) → IsOwn L items old l.who item → L.kind item ≡ kind_at look →
      SinceLine l.who (opened_by look) old.front since rest → Answers L old.opened item since (Ok text) → UnlookGives ending.Asked old new l → Sane L items old → Sane L items new
  unlook old new l item look since rest text own_item e at answers gives sane =
      let others = gives.moves.others in
      let none : own l.who others ≡ [] = own_others l.who others (subst (λ (n : ℕ). AreOthers n others) (sym own_item.mine) gives.moves.apart) in
      adds old new l.who Unlooked gives.moves
      (unlooked_fits L items old.opened (lines_before old new gives.moves) l.who item own_item.is look e since (rest ++ others) (since_stays l.who (opened_by look) old.front since rest others at none) text answers)
      sane

  pub drop : (old new : View) (who : Who) (item : L.Item) (below : ℕ) → IsOwn L items old who item → L.kind item ≡ DropBelow below → DropGives who below old new (Ok tt) → Sane L items old → Sane L items new
  drop old new who item below own_item e gives sane =
      adds old new who (Dropped below) gives.0.moves (dropped_fits L items old.opened (lines_before old new gives.0.moves) who item own_item.is below e gives.1) sane

  pub limit : (ground : Ground) (who : Who) (item : L.Item) (label : Option (List ℕ)) (why : Refusal) (front more : List Line) → MeetsLimit L ground who front item label why → own who more ≡ [] →
      MeetsLimit L ground who (front ++ more) item label why
  limit ground who item label why front more met none = record {
    since = met.since;
    rest = met.rest ++ more;
    began = since_stays who Began front met.since met.rest more met.began none;
    front = met.front;
    more = met.more ++ more;
    place = ap (λ (ls : List Line). ls ++ more) met.place ∙ append_assoc met.front met.more more;
    writes = met.writes;
    rise = met.rise;
    reached = met.reached;
    refused = met.refused;
  }

  pub suffice : SeatsSuffice L items
  suffice = record { waits = waits; adds = adds; begin = begin; commit = commit; look = look; look_all = look_all; unlook = unlook; drop = drop; limit = limit }
