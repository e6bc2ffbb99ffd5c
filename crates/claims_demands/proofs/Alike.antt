-- Engines that show the same after every history of bytes: what demands 2 and 3 say of the one they say of the other.
use Prim.Native.Nat.{ℕ}
use mathlib.Core.Bool.{true, false}
use mathlib.Core.List.{List, [], ◌∷◌, ◌++◌}
use mathlib.Core.Path.{◌≡◌, refl, ◌∙◌}
use Rattle.sets.specs.Sets.{member}
use Rattle.roster.specs.Roster.{state_of, working, held_servers, working_set}
use Rattle.claims_histories.specs.Histories.{AllBytes}
use Rattle.claims_demands.specs.Demands.{Engine, Demand2, Throughout, ends_since, FewerThanTwo, NoneWithout, ProvisosWith, Steady, Demand3}

pub record Alike (E G : Engine) : Type 0 where
  pub table : (h : List (List ℕ)) → AllBytes h → E.table h ≡ G.table h
  pub roster : (h : List (List ℕ)) → AllBytes h → E.roster h ≡ G.roster h
  pub says : (h : List (List ℕ)) (bytes : List ℕ) → AllBytes (bytes ∷ h) → E.says h bytes ≡ G.says h bytes

-- what follows at each event holds throughout
pub throughout_follows : (Q R : List (List ℕ) → List ℕ → Type 0) (between h : List (List ℕ)) → AllBytes (between ++ h)
    → ((g : List (List ℕ)) (bytes : List ℕ) → AllBytes (bytes ∷ g) → Q g bytes → R g bytes)
    → Throughout Q between h → Throughout R between h
throughout_follows Q R [] h b f q = tt
throughout_follows Q R (bytes ∷ between) h b f q = (f (between ++ h) bytes b q.0, throughout_follows Q R between h b.1 f q.1)

pub bytes_behind : (between h : List (List ℕ)) → AllBytes (between ++ h) → AllBytes h
bytes_behind [] h b = b
bytes_behind (bytes ∷ between) h b = bytes_behind between h b.1

-- two of the provisos, at an event between
abbrev WorksIn : Engine → List (List ℕ) → List ℕ → List (List ℕ) → List ℕ → Type 0
WorksIn E h earlier g bytes = state_of (E.says h earlier).server (E.roster (bytes ∷ g)) ≡ working

abbrev HeldIn : Engine → List (List ℕ) → List (List ℕ) → List ℕ → Type 0
HeldIn E h g bytes =
    (x : ℕ) → member x (working_set (E.roster (bytes ∷ g))) ≡ true → member x (working_set (E.roster g)) ≡ false
    → member x (held_servers (E.roster h)) ≡ true

module _ (E G : Engine) (a : Alike E G) where
  pub alike_obeys : (n : ℕ) → Demand2 n G → Demand2 n E
  alike_obeys n d =
      record {
        starts_clear = a.table [] tt ∙ d.starts_clear;
        starts_empty = a.roster [] tt ∙ d.starts_empty;
        packets = λ h bytes key b e works.
            rw (a.table h b.1, a.roster h b.1, a.says h bytes b, a.table (bytes ∷ h) b, a.roster (bytes ∷ h) b)
            (d.packets h bytes key b e (rw (a.roster h b.1) at works));
        others = λ h bytes b n'.
            rw (a.table h b.1, a.roster h b.1, a.says h bytes b, a.table (bytes ∷ h) b, a.roster (bytes ∷ h) b)
            (d.others h bytes b (λ key e works. n' key e (rw (a.roster h b.1) works)));
      }

  -- the ends since the key's record was written, and the two halves of the proviso about them
  pub same_ends : (key : List ℕ) (h : List (List ℕ)) → AllBytes h → ends_since E key h ≡ ends_since G key h
  unfolding ends_since
  same_ends key [] b = refl
  same_ends key (bytes ∷ h) b = rw (a.says h bytes b, same_ends key h b.1)

  same_fewer : (key : List ℕ) (g : List (List ℕ)) (bytes : List ℕ) → AllBytes (bytes ∷ g) → FewerThanTwo E key g bytes → FewerThanTwo G key g bytes
  same_fewer key g bytes b q = rw (a.says g bytes b, same_ends key (bytes ∷ g) b) at q

  same-without : (key : List ℕ) (g : List (List ℕ)) (bytes : List ℕ) → AllBytes (bytes ∷ g) → NoneWithout E key g bytes → NoneWithout G key g bytes
  same-without key g bytes b q = rw (a.says g bytes b) at q

  -- with whatever is asked about ends, if it is carried over
  module _ (Q R : List ℕ → List (List ℕ) → List ℕ → Type 0)
      (carried : (key : List ℕ) (g : List (List ℕ)) (bytes : List ℕ) → AllBytes (bytes ∷ g) → Q key g bytes → R key g bytes) where
    module _ (h between : List (List ℕ)) (earlier key : List ℕ) (b : AllBytes (between ++ (earlier ∷ h))) where
      first-same : E.says h earlier ≡ G.says h earlier
      first-same = a.says h earlier (bytes_behind between (earlier ∷ h) b)

      same-provisos : ProvisosWith (Q key) E h earlier key (E.says h earlier).server between
          → ProvisosWith (R key) G h earlier key (G.says h earlier).server between
      same-provisos v =
          let before = a.roster h (bytes_behind between (earlier ∷ h) b).1 in
          record {
            worked = throughout_follows (WorksIn E h earlier) (WorksIn G h earlier) between (earlier ∷ h) b
                (λ l bytes c q. rw (a.roster (bytes ∷ l) c, first-same) at q)
                v.worked;
            ends = throughout_follows (Q key) (R key) between (earlier ∷ h) b (carried key) v.ends;
            held = throughout_follows (HeldIn E h) (HeldIn G h) between (earlier ∷ h) b
                (λ l bytes c q. rw (a.roster (bytes ∷ l) c, a.roster l c.1, before) at q)
                v.held;
            room_told = rw first-same at v.room_told;
          }

    same-steady : Steady (λ h earlier key m between. ProvisosWith (R key) G h earlier key m between) G
        → Steady (λ h earlier key m between. ProvisosWith (Q key) E h earlier key m between) E
    same-steady d h between earlier later key b p₁ p₂ accepted v =
        let l = between ++ (earlier ∷ h) in
        let c = bytes_behind between (earlier ∷ h) b.1 in
        let first = a.says h earlier c in
        let s = d h between earlier later key b p₁ p₂ (rw first at accepted) (same-provisos h between earlier key b.1 v) in
        let last = a.says l later b in
        record {
          accepted = rw last s.accepted;
          same = rw (first, last) s.same;
          first = rw (first, a.table h c.1, a.roster h c.1) s.first;
          last = rw (last, a.table l b.1, a.roster l b.1) s.last;
        }

  pub alike_enough : Steady (λ h earlier key m between. ProvisosWith (FewerThanTwo G key) G h earlier key m between) G
      → Steady (λ h earlier key m between. ProvisosWith (FewerThanTwo E key) E h earlier key m between) E
  alike_enough = same-steady (FewerThanTwo E) (FewerThanTwo G) same_fewer

  pub alike_steady : Demand3 G → Demand3 E
  alike_steady d =
      record {
        once = λ h b. rw (a.table h b) (d.once h b);
        named = λ h b. rw (a.table h b, a.roster h b) (d.named h b);
        steady = same-steady (λ key g bytes. FewerThanTwo E key g bytes × NoneWithout E key g bytes) (λ key g bytes. FewerThanTwo G key g bytes × NoneWithout G key g bytes)
            (λ key g bytes b (few, with). (same_fewer key g bytes b few, same-without key g bytes b with))
            d.steady;
      }
