-- The laws of the choice over a set, for any strict ranking.
use Prim.Native.Nat.{ℕ}
use mathlib.Core.Bool.{true, false, cond}
use mathlib.Core.List.{List, [], ◌∷◌, ◌++◌}
use mathlib.Core.Path.{◌≡◌, refl, sym, ◌∙◌, subst}
use borrow.Author.Tests.{eq-eqb}
use Rattle.sets.specs.Sets.{member, Within, SameSet}
use Rattle.sets.proofs.Cases.{both, clash, either, or_left, not_so}
use Rattle.sets.proofs.Members.{member_head, member_tail, member_left, member-cases, member_split}
use Rattle.ranking.specs.Ranking.{Ranking, Strict, higher, highest, choice, outranked}

module _ (R : Ranking) (S : Strict R) where
  highest_keeps : (x c : ℕ) (l : List ℕ) → R x c ≡ false → R x (highest R c l) ≡ false
  highest_keeps x c [] e = e
  highest_keeps x c (s ∷ l) e =
      both
      (R s c)
      (λ t. rw t (highest_keeps x s l (not_so (λ u. clash (S.transitive x s c u t) e))))
      (λ t. rw t (highest_keeps x c l e))

  highest_tops : (x c : ℕ) (l : List ℕ) → member x l ≡ true → R x (highest R c l) ≡ false
  highest_tops x c [] m = clash m refl
  highest_tops x c (s ∷ l) m =
      member-cases
      x
      s
      l
      m
      (λ q. rw q (both (R s c) (λ t. rw t (highest_keeps s s l (S.irreflexive s))) (λ t. rw t (highest_keeps s c l t))))
      (λ q. highest_tops x (higher R c s) l q)

  highest-member : (c : ℕ) (l : List ℕ) → member (highest R c l) (c ∷ l) ≡ true
  highest-member c [] = member_head c []
  highest-member c (s ∷ l) =
      both
      (R s c)
      (
      λ t. subst
      (λ b. member (highest R (cond b s c) l) (c ∷ s ∷ l) ≡ true)
      (sym t)
      (member_tail (highest R s l) c (s ∷ l) (highest-member s l)))
      (
      λ t. subst
      (λ b. member (highest R (cond b s c) l) (c ∷ s ∷ l) ≡ true)
      (sym t)
      (member-cases
      (highest R c l)
      c
      l
      (highest-member c l)
      (λ q. rw (eq-eqb (highest R c l) c q))
      (λ q. member_tail _ c (s ∷ l) (member_tail _ s l q))))

  -- the choice is a member,
  pub choice-member : (s : ℕ) (l : List ℕ) → member s l ≡ true → member (choice R l) l ≡ true
  choice-member s [] m = clash m refl
  choice-member s (x ∷ l) m = highest-member x l

  -- no member outranks it,
  pub choice_tops : (x : ℕ) (l : List ℕ) → member x l ≡ true → R x (choice R l) ≡ false
  choice_tops x [] m = clash m refl
  choice_tops x (y ∷ l) m =
      member-cases x y l m (λ q. rw q (highest_keeps y y l (S.irreflexive y))) (λ q. highest_tops x y l q)

  -- and it is the only such member
  pub choice_only : (c : ℕ) (l : List ℕ) → member c l ≡ true → ((x : ℕ) → member x l ≡ true → R x c ≡ false) → choice R l ≡ c
  choice_only c l m top =
      S.total (choice R l) c (top (choice R l) (choice-member c l m)) (choice_tops c l m)

  -- a part of the set that has the choice has the same choice: taking other servers away leaves it
  pub choice_part : (l m : List ℕ) → Within m l → member (choice R l) m ≡ true → choice R m ≡ choice R l
  choice_part l m within has = choice_only (choice R l) m has (λ x q. choice_tops x l (within x q))

  -- it depends on the set alone
  pub choice-set : (l m : List ℕ) → SameSet l m → choice R l ≡ choice R m
  choice-set [] [] same = refl
  choice-set [] (y ∷ m) same = clash (member_head y m) (sym (same y))
  choice-set (y ∷ l) m same =
      sym (choice_part (y ∷ l) m (λ x q. same x ∙ q) (sym (same (highest R y l)) ∙ highest-member y l))

  -- further servers, none of which outranks it, leave it
  pub choice_more : (s : ℕ) (l m : List ℕ) → member s l ≡ true → ((x : ℕ) → member x m ≡ true → R x (choice R l) ≡ false)
      → choice R (l ++ m) ≡ choice R l
  choice_more s l m h top =
      choice_only
      (choice R l)
      (l ++ m)
      (member_left _ l m (choice-member s l h))
      (λ x q. member_split x l m q (choice_tops x l) (top x))

-- the test `outranked`, as facts about members
module _ (R : Ranking) where
  pub outranked_by : (c : ℕ) (l : List ℕ) → outranked R c l ≡ true → (h : ℕ) × (member h l ≡ true) × (R h c ≡ true)
  outranked_by c [] e = clash e refl
  outranked_by c (h ∷ l) e =
      either
      (R h c)
      (outranked R c l)
      e
      (λ t. (h, member_head h l, t))
      (λ t. let (g, m, o) = outranked_by c l t in (g, member_tail g h l m, o))

  pub outranked-none : (c x : ℕ) (l : List ℕ) → outranked R c l ≡ false → member x l ≡ true → R x c ≡ false
  outranked-none c x [] e m = clash m refl
  outranked-none c x (h ∷ l) e m =
      both
      (R h c)
      (λ t. clash (or_left (outranked R c l) t) e)
      (λ t. member-cases x h l m (λ q. rw q t) (outranked-none c x l (rw t at e)))

  pub outranked-has : (c h : ℕ) (l : List ℕ) → member h l ≡ true → R h c ≡ true → outranked R c l ≡ true
  outranked-has c h l m o = both (outranked R c l) (λ t. t) (λ t. clash o (outranked-none c h l t m))
