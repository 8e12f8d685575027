-- What is picked of rows that are read from their front.
use Rattle.std.proofs.Common.{◌≡◌, ◌∙◌, ◌∷◌, ◌++◌, List, [], Result, Ok, Err, refl, ap, append_assoc}
use Rattle.retro_base.specs.Gives.{◌>>=◌}
use Rattle.retro_base.specs.declared.refusal.Refusal.{Refusal}
use Rattle.sql_exec.specs.Planning.{picked}

-- what was picked, and then what is picked of the rest
abbrev pub behind : {A : Type 0} → List A → Result (List A) Refusal → Result (List A) Refusal
behind done (Ok more) = Ok (done ++ more)
behind done (Err why) = Err why

pub behind-nothing : {A : Type 0} (r : Result (List A) Refusal) → behind [] r ≡ r
behind-nothing (Ok more) = refl
behind-nothing (Err why) = refl

pub behind-more : {A : Type 0} (done here : List A) (r : Result (List A) Refusal) → behind done (r >>= (λ (others : List A). Ok (here ++ others))) ≡ behind (done ++ here) r
behind-more done here (Ok more) = ap (λ (l : List _). Ok l) (let same : done ++ (here ++ more) ≡ (done ++ here) ++ more = rw append_assoc refl in same)
behind-more done here (Err why) = refl

pub picks : {A B : Type 0} (step : A → Result (List B) Refusal) (x : A) (xs : List A) (done here : List B) → step x ≡ Ok here → behind done (picked step (x ∷ xs)) ≡ behind (done ++ here) (picked step xs)
picks step x xs done here e =
    ap (λ (r : Result (List _) Refusal). behind done (r >>= (λ (here : List _). picked step xs >>= (λ (others : List _). Ok (here ++ others))))) e ∙ behind-more done here (picked step xs)

pub picks-not : {A B : Type 0} (step : A → Result (List B) Refusal) (x : A) (xs : List A) (done : List B) (why : Refusal) → step x ≡ Err why → behind done (picked step (x ∷ xs)) ≡ Err why
picks-not step x xs done why e = ap (λ (r : Result (List _) Refusal). behind done (r >>= (λ (here : List _). picked step xs >>= (λ (others : List _). Ok (here ++ others))))) e
