-- What a key reads on a ring drawn for the sets: the choice over the working set at the key's point, flagged exactly where some horizon
-- server outranks it; equal positions and wrap-around included.
use Prim.Native.Nat.{ℕ, ◌^◌, ◌<◌}
use mathlib.Core.Bool.{true, false, not, ◌||◌}
use mathlib.Core.List.{List, [], ◌∷◌, ◌++◌, map}
use mathlib.Core.Path.{◌≡◌, refl, sym, ap, ◌∙◌}
use lib.Dec.{eqb, leb}
use lib.ListN.{length, get_or, drop, length-map}
use lib.Seq.{take_at}
use Rattle.hash.specs.Hash.{position}
use Rattle.sets.specs.Sets.{member}
use Rattle.sets.proofs.Cases.{both, clash, either, or_right, not_so}
use Rattle.ranking.specs.Ranking.{Strict, choice, outranked, pick_of, picked}
use Rattle.ranking.specs.Methods.{ring}
use Rattle.ranking.proofs.Instances.{ring_strict}
use Rattle.ranking.proofs.Choice.{choice-member, choice_tops, choice_only, outranked_by, outranked-has}
use Rattle.ranking.proofs.Unsafe.{unsafe-outranked}
use Rattle.ring.specs.declared.Entry.{Entry}
use Rattle.ring.specs.Ring.{blank, first_from, entry_read, gives}
use Rattle.ringplan.specs.Plan.{arranged, some, entry_of, entries, drawn}
use Rattle.ringplan.proofs.Order.{member-arranged, length-arranged, ordered}
use Rattle.ringplan.proofs.Clockwise.{seek, front, seek-choice, substitute}

-- the entry read belongs to the owner found
first-map : (w : List ℕ) (p d : ℕ) (l : List ℕ) → first_from p (map (entry_of w) l) (entry_of w d) ≡ entry_of w (seek p l d)
unfolding first_from seek
first-map w p d [] = refl
first-map w p d (s ∷ l) = both (leb p (position s)) (λ t. rw t) (λ t. rw t (first-map w p d l))

head_map : (w : List ℕ) (s : ℕ) (l : List ℕ) (rest : List Entry) → member s l ≡ true
    → get_or (map (entry_of w) l ++ rest) 0 blank ≡ entry_of w (front l)
unfolding front
head_map w s [] rest m = clash m refl
head_map w s (y ∷ l) rest m = refl

pub length-entries : (held working : List ℕ) → length (entries held working) ≡ length held
unfolding entries
length-entries held working = length-map (arranged held) (entry_of working) ∙ length-arranged held

pub read_owner : (held working : List ℕ) (old : List Entry) (p s : ℕ) → p < 2 ^ 32 → member s held ≡ true
    → entry_read (length held) p (drawn held working old) ≡ entry_of working (choice (ring p) (arranged held))
unfolding entry_read drawn entries
read_owner held working old p s hp m =
    let l = arranged held in
    let n : length (map (entry_of working) l) ≡ length held = length-entries held working in
    let ml : member s l ≡ true = member-arranged s held ∙ m in
    rw (
      take_at (map (entry_of working) l) (drop (length held) old) (length held) n,
      head_map working s l (drop (length held) old) ml,
      first-map working p (front l) l,
    )
    (ap (entry_of working) (sym (seek-choice p s l hp (ordered held) ml)))

-- whichever server's entry is read, no server held outranks its owner at the point
module _ (working horizon held : List ℕ) (p s : ℕ) (hp : p < 2 ^ 32) (works : member s working ≡ true)
    (split : (x : ℕ) → member x held ≡ member x working || member x horizon) where
  within : (x : ℕ) → member x working ≡ true → member x held ≡ true
  within x q = split x ∙ rw q

  beside : (x : ℕ) → member x horizon ≡ true → member x held ≡ true
  beside x q = split x ∙ or_right (member x working) q

  some_works : some working ≡ true
  some_works = go working works
    where
      go : (w : List ℕ) → member s w ≡ true → some w ≡ true
      go [] m = clash m refl
      go (x ∷ w) m = refl

  module _ (y : ℕ) (my : member y held ≡ true) (top : (x : ℕ) → member x held ≡ true → ring p x y ≡ false) where
    S : Strict (ring p)
    S = ring_strict p

    abbrev Goal : Type 0
    Goal = ((entry_of working y).server ≡ choice (ring p) working) × (not (eqb (entry_of working y).track 0) ≡ outranked (ring p) (choice (ring p) working) horizon)

    -- an owner that works is the choice, and safe
    own : member y working ≡ true → Goal
    own t =
        let q : choice (ring p) working ≡ y = choice_only (ring p) S y working t (λ x m. top x (within x m)) in
        rw
        (t, q)
        (refl, sym (not_so (λ u. let (g, a, b) = outranked_by (ring p) y horizon u in clash b (top g (beside g a)))))

    -- a horizon owner outranks the choice, which its entry names
    standby : member y working ≡ false → Goal
    standby t =
        let q : choice (ring (position y)) working ≡ choice (ring p) working = substitute p y s working hp works (λ x m. top x (within x m)) in
        let c = choice (ring p) working in
        let mc : member c working ≡ true = choice-member (ring p) S s working works in
        let o : ring p y c ≡ true =
        both (ring p y c) (λ u. u) (λ u. clash mc (rw (← (S.total y c u (top c (within c mc)))) t)) in
        let yh : member y horizon ≡ true =
        either (member y working) (member y horizon) (sym (split y) ∙ my) (λ u. clash u t) (λ u. u) in
        rw (t, some_works) (q, sym (outranked-has (ring p) c y horizon yh o))

    pub owner_gives : gives (entry_of working y) ≡ picked (ring p) working horizon
    owner_gives =
        let (a, b) = both (member y working) own standby in
        λ i. pick_of (a i) ((b ∙ sym (unsafe-outranked (ring p) S s working horizon works)) i)

  -- THE RING'S CORRECTNESS
  pub ring_reads : (old : List Entry) → gives (entry_read (length held) p (drawn held working old)) ≡ picked (ring p) working horizon
  ring_reads old =
      let l = arranged held in
      let mh : member s held ≡ true = within s works in
      let ml : member s l ≡ true = member-arranged s held ∙ mh in
      let y = choice (ring p) l in
      ap gives (read_owner held working old p s hp mh)
      ∙ owner_gives
      y
      (sym (member-arranged y held) ∙ choice-member (ring p) (ring_strict p) s l ml)
      (λ x m. choice_tops (ring p) (ring_strict p) x l (member-arranged x held ∙ m))

-- with no working server every entry names 0, unflagged
pub ring_reads_none : (horizon held : List ℕ) (p s : ℕ) → p < 2 ^ 32 → member s held ≡ true → (old : List Entry)
    → gives (entry_read (length held) p (drawn held [] old)) ≡ picked (ring p) [] horizon
ring_reads_none horizon held p s hp m old = ap gives (read_owner held [] old p s hp m)
