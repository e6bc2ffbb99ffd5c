-- Demand 1's table read line by line: the first line that applies gives its number, and where none applies the answer is accepted. For any
-- table, and whatever an accepted answer is to satisfy.
use Prim.Native.Nat.{ℕ}
use mathlib.Core.Bool.{Bool, true, false}
use mathlib.Core.List.{List, [], ◌∷◌, map}
use mathlib.Core.Logic.{◌↔◌, inl, inr}
use mathlib.Core.Path.{◌≡◌, refl, sym, ap, ◌∙◌}
use borrow.Author.Tests.{eq-eqb}
use Rattle.sets.specs.Sets.{member}
use Rattle.sets.proofs.Cases.{clash}
use Rattle.sets.proofs.Members.{member_tail}
use Rattle.rules.specs.declared.Reply.{Reply}
use Rattle.rules.specs.declared.Reply.TheVariants.{Accepted, Refused}
use Rattle.rules.specs.Answer.{Answer, refuses, answer_of}
use Rattle.claims_demands.specs.Demand1.{Line, FirstIs, NoneOf}
use Rattle.claims_demands.proofs.Demand1Lent.{Tells, yes, no}

-- ---- a table
first_one : (ls : List Line) (n m : ℕ) → FirstIs n ls → FirstIs m ls → n ≡ m
first_one [] n m p q = absurd p
first_one (l ∷ ls) n m (inl (a, e)) (inl (b, f)) = sym e ∙ f
first_one (l ∷ ls) n m (inl (a, e)) (inr (b, q)) = absurd (b a)
first_one (l ∷ ls) n m (inr (a, p)) (inl (b, f)) = absurd (a b)
first_one (l ∷ ls) n m (inr (a, p)) (inr (b, q)) = first_one ls n m p q

first-none : (ls : List Line) (n : ℕ) → FirstIs n ls → NoneOf ls → ⊥
first-none [] n p q = p
first-none (l ∷ ls) n (inl (a, e)) (b, q) = b a
first-none (l ∷ ls) n (inr (a, p)) (b, q) = first-none ls n p q

-- no other number is given
pub first_listed : (ls : List Line) (n : ℕ) → FirstIs n ls → member n (map (λ (l : Line). l.number) ls) ≡ true
first_listed [] n p = absurd p
first_listed (l ∷ ls) n (inl (a, e)) = rw (eq-eqb n l.number (sym e))
first_listed (l ∷ ls) n (inr (a, p)) = member_tail n l.number (map (λ (k : Line). k.number) ls) (first_listed ls n p)

-- ---- a reply by its answer
reply_refused : (reply : Reply) (n : ℕ) → answer_of reply ≡ refuses n → reply ≡ Refused n
reply_refused (Accepted s mark reads) n e = clash {b = true} refl (ap (λ (a : Answer). a.accepted) e)
reply_refused (Refused k) n e = ap Refused (ap (λ (a : Answer). a.refusal) e)

reply_accepted : (reply : Reply) → (answer_of reply).accepted ≡ true
    → (s : ℕ) × (mark : ℕ) × (reads : ℕ) × (reply ≡ Accepted s mark reads)
reply_accepted (Accepted s mark reads) e = (s, mark, reads, refl)
reply_accepted (Refused k) e = clash e refl

-- ---- what a table says of an answer
pub data Verdict (M : Answer → Type 1) : List Line → Answer → Type 1 where
  refused : (n : ℕ) (ls : List Line) → FirstIs n ls → Verdict M ls (refuses n)
  accepted : (ls : List Line) (a : Answer) → NoneOf ls → M a → Verdict M ls a

module _ {M : Answer → Type 1} where
  pub past : {l : Line} {ls : List Line} {a : Answer} → (l.when → ⊥) → Verdict M ls a → Verdict M (l ∷ ls) a
  past {l} n (refused k ls f) = refused k (l ∷ ls) (inr (n, f))
  past {l} n (accepted ls a o m) = accepted (l ∷ ls) a (n, o) m

  pub here : {l : Line} {ls : List Line} → l.when → Verdict M (l ∷ ls) (refuses l.number)
  here {l} {ls} p = refused l.number (l ∷ ls) (inl (p, refl))

  -- a line whose test is made next
  pub step : {l : Line} {ls : List Line} {a : Answer} {b : Bool} → Tells l.when b → (b ≡ true → a ≡ refuses l.number)
      → (b ≡ false → (l.when → ⊥) → Verdict M ls a) → Verdict M (l ∷ ls) a
  step {l} {ls} (yes p) r v = rw (r refl) (here p)
  step (no n) r v = past n (v refl n)

  module _ (says : (a : Answer) → M a → a.accepted ≡ true) where
    refused-first : {ls : List Line} {a : Answer} (n : ℕ) → Verdict M ls a → a ≡ refuses n → FirstIs n ls
    refused-first n (refused k ls f) e = let q : k ≡ n = ap (λ (a : Answer). a.refusal) e in rw q at f
    refused-first n (accepted ls a o m) e = clash (says a m) (ap (λ (a : Answer). a.accepted) e)

    first-refused : {ls : List Line} {a : Answer} (n : ℕ) → Verdict M ls a → FirstIs n ls → a ≡ refuses n
    first-refused n (refused k ls f) g = ap refuses (first_one ls k n f g)
    first-refused n (accepted ls a o m) g = absurd (first-none ls n g o)

    accepted-none : {ls : List Line} {a : Answer} → Verdict M ls a → a.accepted ≡ true → NoneOf ls
    accepted-none (refused k ls f) e = clash e refl
    accepted-none (accepted ls a o m) e = o

    none-accepted : {ls : List Line} {a : Answer} → Verdict M ls a → NoneOf ls → a.accepted ≡ true
    none-accepted (refused k ls f) o = absurd (first-none ls k f o)
    none-accepted (accepted ls a o m) _ = says a m

    pub accepted_right : {ls : List Line} {a : Answer} → Verdict M ls a → a.accepted ≡ true → M a
    accepted_right (refused k ls f) e = clash e refl
    accepted_right (accepted ls a o m) e = m

    module _ (ls : List Line) (reply : Reply) (v : Verdict M ls (answer_of reply)) where
      pub refused_exactly : (n : ℕ) → (reply ≡ Refused n) ↔ FirstIs n ls
      refused_exactly n = (λ q. refused-first n v (ap answer_of q), λ f. reply_refused reply n (first-refused n v f))

      pub accepted_exactly : ((s : ℕ) × (mark : ℕ) × (reads : ℕ) × (reply ≡ Accepted s mark reads)) ↔ NoneOf ls
      accepted_exactly = (
        λ (s, mark, reads, q). accepted-none v (ap (λ (x : Reply). (answer_of x).accepted) q),
        λ o. reply_accepted reply (none-accepted v o),
      )

  -- some reply has the answer
  pub answered : ((a : Answer) → M a → (reply : Reply) × (answer_of reply ≡ a))
      → {ls : List Line} {a : Answer} → Verdict M ls a → (reply : Reply) × (answer_of reply ≡ a)
  answered f (refused n ls g) = (Refused n, refl)
  answered f (accepted ls a o m) = f a m
