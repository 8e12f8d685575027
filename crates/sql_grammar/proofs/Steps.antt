-- What each step of the machine keeps.
use Rattle.std.proofs.Common.{◌≡◌, ◌≢◌, ◌<◌, ◌∙◌, inl, inr, Bool, true, false, Option, Some, None, List, [], ◌∷◌, ◌++◌, ◌↔◌, IsTrue, is_none, is_some, not, nat_le, length, if◌then◌else◌, refl, sym, ap, subst, append_assoc, append-nil}
use Rattle.sql_lexer.specs.declared.token.Token.{Token}
use Rattle.sql_lexer.specs.declared.token.Token.TheVariants as token
use Rattle.sql_parts.specs.declared.action.Action.{Action}
use Rattle.sql_grammar.specs.declared.grammar.Class.{Class}
use Rattle.sql_grammar.specs.declared.grammar.Class.TheVariants.{End, ShortText, Text}
use Rattle.sql_parts.specs.declared.action.Op.{Op}
use Rattle.sql_parts.specs.declared.action.Op.TheVariants.{Act}
use Rattle.sql_grammar.specs.declared.grammar.Rule.{Rule}
use Rattle.sql_grammar.specs.declared.grammar.Symbol.{Symbol}
use Rattle.sql_grammar.specs.declared.grammar.Symbol.TheVariants.{Take, Put, Use}
use Rattle.sql_grammar.specs.Derivation.{Derives, Done, Taken, Emitted, Replaced, IsIn, IsSentence, Begins}
use Rattle.sql_grammar.specs.Grammar.{class_of, content_of, sides}
use Rattle.sql_grammar.specs.Machine.{Ends, Continues, look, rank, Stands, Wants}
use Rattle.sql_grammar.specs.Table.{choice, expansion, follow}
use Rattle.sql_grammar.proofs.Finishing.{finishes}
use Rattle.sql_grammar.proofs.Tables.{fine_side, is_chosen, rank_falls, side-IsIn}

no_end : (b : Bool) → (if b then ShortText else Text) ≡ End → ⊥
no_end true e = cc
no_end false e = cc

pub no_token_ends : (t : Token) → class_of t ≢ End
no_token_ends (token.Keyword k) e = cc
no_token_ends (token.Name n) e = cc
no_token_ends token.LongWord e = cc
no_token_ends (token.Integer i) e = cc
no_token_ends token.BigInteger e = cc
no_token_ends (token.Text t) e = no_end (nat_le (length t) 64) e
no_token_ends (token.LongText t) e = cc
no_token_ends (token.Sign s) e = cc

-- taking a derivation apart
pub replaced : {q : Rule} {ss : List Symbol} {ts : List Token} {os : List Op} → Derives (Use q ∷ ss) ts os → (side : List Symbol) × IsIn side (sides q) × Derives (side ++ ss) ts os
replaced (Replaced side i d) = (side, i, d)

pub emitted : {a : Action} {ss : List Symbol} {ts : List Token} {os : List Op} → Derives (Put a ∷ ss) ts os → (rest : List Op) × (os ≡ Act a ∷ rest) × Derives ss ts rest
emitted (Emitted {os} d) = (os, refl, d)

pub taken : {k : Class} {ss : List Symbol} {t : Token} {ts : List Token} {os : List Op} → Derives (Take k ∷ ss) (t ∷ ts) os → (class_of t ≡ k) × ((rest : List Op) × (os ≡ content_of t ++ rest) × Derives ss ts rest)
taken (Taken {os} e o d) = (e, (os, o, d))

pub nothing_taken : {k : Class} {ss : List Symbol} {os : List Op} → Derives (Take k ∷ ss) [] os → ⊥
nothing_taken d = elim d [ ]

pub done : {ts : List Token} {os : List Op} → Derives [] ts os → (ts ≡ []) × (os ≡ [])
done Done = (refl, refl)

-- no sentence goes on with a token of the class
abbrev Stops : Rule → List Token → Class → Type 0
Stops r c k = (ts : List Token) (os : List Op) → look ts ≡ k → IsSentence r (c ++ ts) os → ⊥

-- a rule is next: its chosen right side stands for it
expands : (r : Rule) (c : List Token) (k : Class) (q : Rule) (ss : List Symbol) (ops : List Op) → Continues r c k (Use q ∷ ss) ops → Continues r c k (expansion q k ++ ss) ops
expands r c k q ss ops h = record {
  sound = λ ts os d. h.sound ts os (Replaced (expansion q k) (side-IsIn (choice q k) q) d);
  whole = λ ts os l s.
      let w = h.whole ts os l s in
      let p = replaced w.2 in
      let same : p.0 ≡ expansion q k = sym (ap (expansion q) (sym l) ∙ is_chosen q ss p.0 ts w.0 h.fine p.1 p.2) in
      let P : List Symbol → Type 0 = λ x. Derives (x ++ ss) ts w.0 in
      (w.0, w.1, subst P same p.2);
  fine = fine_side q ss (expansion q k) h.fine (side-IsIn (choice q k) q);
}

pub expansion_ranks : (q : Rule) (k : Class) (ss : List Symbol) → rank (expansion q k ++ ss) < rank (Use q ∷ ss)
expansion_ranks q k ss = rank_falls q ss (expansion q k) (side-IsIn (choice q k) q)

puts : (r : Rule) (c : List Token) (k : Class) (a : Action) (ss : List Symbol) (ops : List Op) → Continues r c k (Put a ∷ ss) ops → Continues r c k ss (ops ++ Act a ∷ [])
puts r c k a ss ops h = record {
  sound = λ ts os d. let P : List Op → Type 0 = λ x. IsSentence r (c ++ ts) x in subst P (sym (append_assoc ops (Act a ∷ []) os)) (h.sound ts (Act a ∷ os) (Emitted d));
  whole = λ ts os l s.
      let w = h.whole ts os l s in
      let p = emitted w.2 in
      (p.0, (w.1 ∙ ap (λ x. ops ++ x) p.1 ∙ sym (append_assoc ops (Act a ∷ []) p.0)), p.2);
  fine = h.fine;
}

-- the same by what a call of `pop` and of `push` say
pub next : (r : Rule) (c : List Token) (k : Class) (old rest : List Symbol) (x y : Symbol) (ops : List Op) → old ≡ x ∷ rest → x ≡ y → Continues r c k old ops → Continues r c k (y ∷ rest) ops
next r c k old rest x y ops e q h = let P : List Symbol → Type 0 = λ ss. Continues r c k ss ops in subst P (e ∙ ap (λ z. z ∷ rest) q) h

pub next_put : (r : Rule) (c : List Token) (k : Class) (old rest : List Symbol) (x : Symbol) (a : Action) (ops new : List Op) → old ≡ x ∷ rest → x ≡ Put a → new ≡ ops ++ Act a ∷ [] → Continues r c k old ops → Continues r c k rest new
next_put r c k old rest x a ops new e q n h =
    let P : List Op → Type 0 = λ os. Continues r c k rest os in
    subst P (sym n) (puts r c k a rest ops (next r c k old rest x (Put a) ops e q h))

pub next_use : (r : Rule) (c : List Token) (k : Class) (old rest side new : List Symbol) (x : Symbol) (q : Rule) (ops : List Op) → old ≡ x ∷ rest → x ≡ Use q → side ≡ expansion q k → new ≡ side ++ rest → Continues r c k old ops → Continues r c k new ops
next_use r c k old rest side new x q ops e i s n h =
    let P : List Symbol → Type 0 = λ ss. Continues r c k ss ops in
    subst P (sym (n ∙ ap (λ z. z ++ rest) s)) (expands r c k q rest ops (next r c k old rest x (Use q) ops e i h))

-- the token is the one that is wanted
takes : (r : Rule) (c : List Token) (t : Token) (ss : List Symbol) (ops : List Op) → Continues r c (class_of t) (Take (class_of t) ∷ ss) ops → Stands r (c ++ t ∷ []) ss (ops ++ content_of t)
takes r c t ss ops h k = record {
  sound = λ ts os d.
      let P : List Op → Type 0 = λ x. IsSentence r (c ++ t ∷ ts) x in
      let Q : List Token → Type 0 = λ x. IsSentence r x ((ops ++ content_of t) ++ os) in
      subst Q (sym (append_assoc c (t ∷ []) ts)) (subst P (sym (append_assoc ops (content_of t) os)) (h.sound (t ∷ ts) (content_of t ++ os) (Taken refl refl d)));
  whole = λ ts os l s.
      let Q : List Token → Type 0 = λ x. IsSentence r x os in
      let w = h.whole (t ∷ ts) os refl (subst Q (append_assoc c (t ∷ []) ts) s) in
      let p = taken w.2 in
      (p.1.0, (w.1 ∙ ap (λ x. ops ++ x) p.1.1 ∙ sym (append_assoc ops (content_of t) p.1.0)), p.1.2);
  fine = h.fine.1;
}

stops : (r : Rule) (c : List Token) (t : Token) → Stops r c (class_of t) → Begins r (c ++ t ∷ []) → ⊥
stops r c t h b =
    let Q : List Token → Type 0 = λ x. IsSentence r x b.1 in
    h (t ∷ b.0) b.1 refl (subst Q (append_assoc c (t ∷ []) b.0) b.2)

look_taken : (ts : List Token) (k : Class) (ss : List Symbol) (os : List Op) → Derives (Take k ∷ ss) ts os → look ts ≡ k
look_taken [] k ss os d = absurd (nothing_taken d)
look_taken (t ∷ ts) k ss os d = (taken d).0

-- a token of another class is wanted
other : (r : Rule) (c : List Token) (k wanted : Class) (ss : List Symbol) (ops : List Op) → wanted ≢ k → Continues r c k (Take wanted ∷ ss) ops → Stops r c k
other r c k wanted ss ops n h = λ ts os l s.
    let w = h.whole ts os l s in
    n (sym (look_taken ts wanted ss w.0 w.2) ∙ l)

-- no token is wanted
none : (r : Rule) (c : List Token) (t : Token) (ops : List Op) → Continues r c (class_of t) [] ops → Stops r c (class_of t)
none r c t ops h = λ ts os l s.
    let w = h.whole ts os l s in
    no_token_ends t (sym l ∙ ap look ((done w.2).0))

refuses : (w : Option Class) (r : Rule) (c : List Token) (t : Token) (ss : List Symbol) (ops : List Op) → (w ≡ Some (class_of t) → ⊥) → Wants w r c (class_of t) ss ops → Begins r (c ++ t ∷ []) → ⊥
refuses (Some wanted) r c t ss ops n h = stops r c t (other r c (class_of t) wanted ss ops (λ e. n (ap Some e)) h)
refuses None r c t ss ops n h = stops r c t (none r c t ops h)

is_not : (b : Bool) (P : Type 0) → IsTrue b ↔ P → b ≡ false → P → ⊥
is_not b P h e p = let t : true ≡ false = sym (h.1 p) ∙ e in cc

-- the same by what calls of `settle` and `is_wanted` say
pub refuses_by : (b : Bool) (w : Option Class) (t : Token) (k : Class) (old ss : List Symbol) (before ops : List Op) → k ≡ class_of t → IsTrue b ↔ (w ≡ Some k) → b ≡ false
    → ((r : Rule) (c : List Token) → Continues r c k old before → Wants w r c k ss ops) → (r : Rule) (c : List Token) → Stands r c old before → Begins r (c ++ t ∷ []) → ⊥
refuses_by b w t k old ss before ops e h n f r c s =
    let P : Class → Type 0 = λ x. Wants w r c x ss ops in
    refuses w r c t ss ops (λ q. is_not b (w ≡ Some k) h n (q ∙ ap Some (sym e))) (subst P e (f r c (s k)))

pub takes_by : (b : Bool) (w : Option Class) (t : Token) (k : Class) (old ss : List Symbol) (before ops put new : List Op) → k ≡ class_of t → IsTrue b ↔ (w ≡ Some k) → b ≡ true
    → new ≡ ops ++ put → put ≡ content_of t
    → ((r : Rule) (c : List Token) → Continues r c k old before → Wants w r c k ss ops) → (r : Rule) (c : List Token) → Stands r c old before → Stands r (c ++ t ∷ []) ss new
takes_by b w t k old ss before ops put new e h y n p f r c s =
    let P : Option Class → Type 0 = λ x. Wants x r c k ss ops in
    let Q : Class → Type 0 = λ x. Continues r c x (Take x ∷ ss) ops in
    let N : List Op → Type 0 = λ x. Stands r (c ++ t ∷ []) ss x in
    subst N (sym (n ∙ ap (λ x. ops ++ x) p)) (takes r c t ss ops (subst Q e (subst P (h.0 y) (f r c (s k)))))

-- before the first token
pub begins : (r : Rule) → IsIn End (follow r) → Stands r [] (Use r ∷ []) []
begins r f k = record {
  sound = λ ts os d. d;
  whole = λ ts os l s. (os, refl, s);
  fine = ((λ n m. elim m [ inl e ↦ let P : Class → Type 0 = λ x. IsIn x (follow r) in subst P (sym e) f | inr z ↦ absurd z ]), tt);
}

-- at the end
sentence : (r : Rule) (c : List Token) (ops : List Op) → Continues r c End [] ops → IsSentence r c ops
sentence r c ops h =
    let P : List Token → Type 0 = λ x. IsSentence r x (ops ++ []) in
    let Q : List Op → Type 0 = λ x. IsSentence r c x in
    subst Q (append-nil ops) (subst P (append-nil c) (h.sound [] [] Done))

alone : (r : Rule) (c : List Token) (ops os : List Op) → Continues r c End [] ops → IsSentence r c os → os ≡ ops
alone r c ops os h s =
    let P : List Token → Type 0 = λ x. IsSentence r x os in
    let w = h.whole [] os refl (subst P (sym (append-nil c)) s) in
    w.1 ∙ ap (λ x. ops ++ x) ((done w.2).1) ∙ append-nil ops

early : (r : Rule) (c : List Token) → Stops r c End → (os : List Op) → IsSentence r c os → ⊥
early r c h os s =
    let P : List Token → Type 0 = λ x. IsSentence r x os in
    h [] os refl (subst P (sym (append-nil c)) s)

ends : (w : Option Class) (r : Rule) (c : List Token) (ss : List Symbol) (ops : List Op) → Wants w r c End ss ops → Ends (is_none w) r c ops
ends None r c ss ops h = (sentence r c ops h, λ others s. alone r c ops others h s)
ends (Some wanted) r c ss ops h = early r c (other r c End wanted ss ops h.fine.0 h)

is_none_by : (b : Bool) (w : Option Class) → is_some w ≡ not b → is_none w ≡ b
is_none_by true None e = refl
is_none_by false None e = cc
is_none_by true (Some k) e = cc
is_none_by false (Some k) e = refl

pub ends_by : (b : Bool) (w : Option Class) (old ss : List Symbol) (before ops : List Op) → is_some w ≡ not b
    → ((r : Rule) (c : List Token) → Continues r c End old before → Wants w r c End ss ops) → (r : Rule) (c : List Token) → Stands r c old before → Ends b r c ops
ends_by b w old ss before ops e f r c s = let P : Bool → Type 0 = λ x. Ends x r c ops in subst P (is_none_by b w e) (ends w r c ss ops (f r c (s End)))

-- what was read begins a sentence
pub reads : (r : Rule) (c : List Token) (ss : List Symbol) (ops : List Op) → Stands r c ss ops → Begins r c
reads r c ss ops h = let e = finishes ss ((h End).fine) in (e.0, ops ++ e.1, (h End).sound e.0 e.1 e.2)
