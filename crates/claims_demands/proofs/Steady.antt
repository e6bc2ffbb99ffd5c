-- Demand 3 of our engine: two successive packets of one key get the same mover under the four provisos (of the one about ends the first half is
-- enough), no key is recorded twice, and every record names a working mover.
use Prim.Native.Nat.{ℕ}
use mathlib.Core.Bool.{true, false}
use mathlib.Core.List.{List, [], ◌∷◌, ◌++◌}
use mathlib.Core.Logic.{◌≢◌}
use mathlib.Core.Path.{◌≡◌, refl, ap, subst, ◌∙◌}
use lib.ListN.{length}
use native.Mathlib.Omega.{arith}
use Rattle.sets.specs.Sets.{member}
use Rattle.spans.proofs.Scans.{same_equal}
use Rattle.settings.specs.declared.Settings.{Settings}
use Rattle.roster.specs.Roster.{state_of, working, held_servers, working_set}
use Rattle.event.specs.Event.{Request, asks_key, event_in}
use Rattle.event.proofs.Reading.{reading}
use Rattle.rules.specs.Answer.{Answer}
use Rattle.rules.specs.Rules.{World, settled, event_of}
use Rattle.claims_histories.specs.Histories.{start_accepted, after, answer, AllBytes, Distinct, AllWorking}
use Rattle.claims_histories.proofs.Along.{event_judged, inner, along}
use Rattle.claims_histories.proofs.Meaning.{distinct_apart, works_each}
use Rattle.claims_demands.specs.Demands.{ours, mover, Throughout, FewerThanTwo, NoneWithout, ProvisosWith, Steady, Demand3}
use Rattle.claims_demands.proofs.Alike.{throughout_follows, bytes_behind}
use Rattle.claims_demands.proofs.Obeys.{ours_obeys}
use Rattle.claims_demands.proofs.Same.{accepted_works}
use Rattle.claims_demands.proofs.TagCounts.{unremoved}
use Rattle.claims_demands.proofs.SteadyEvents.{change_of, served_accepted, goes}
use Rattle.claims_demands.proofs.SteadyKept.{Kept, Fair, kept_first_lem, kept-after, kept_last}

-- the provisos at the event that a record is, after a history
abbrev pub FairAt : World → (ℕ → Type 0) → List ℕ → ℕ → List (List ℕ) → List ℕ → Type 0
FairAt w P key m h bytes =
    Fair P key m (after w h).state.roster (event_in bytes) (answer w h bytes) (after w (bytes ∷ h)).state.roster

-- the three provisos about the time between, as one at each event
fair_throughout : (w : World) → start_accepted w ≡ true → (key : List ℕ) (m : ℕ) (P : ℕ → Type 0) (h between : List (List ℕ)) → AllBytes (between ++ h)
    → Throughout (λ g bytes. state_of m (after w (bytes ∷ g)).state.roster ≡ working) between h
    → Throughout (FewerThanTwo (ours w) key) between h
    → Throughout
    (λ g bytes. (x : ℕ) → member x (working_set (after w (bytes ∷ g)).state.roster) ≡ true
    → member x (working_set (after w g).state.roster) ≡ false → P x)
    between
    h
    → Throughout (FairAt w P key m) between h
fair_throughout w s key m P h [] b worked ends held = tt
fair_throughout w s key m P h (bytes ∷ between) b worked ends held = (
  record {
    works = worked.0;
    unremoved = λ k q.
        let asked = (reading bytes).key_asked (omega arith) (omega arith) in
        unremoved w s (between ++ h) bytes key b (asked ∙ rw k (ap (asks_key 2) (same_equal (event_in bytes).key key q))) ends.0;
    brought = held.0;
  },
  fair_throughout w s key m P h between b.1 worked.1 ends.1 held.1,
)

module _ (w : World) (s : start_accepted w ≡ true) where
  -- an event of a history is judged as its bytes ask
  event_at : (h : List (List ℕ)) → AllBytes h → (bytes : List ℕ)
      → event_of bytes (after w h) ≡ settled (change_of (after w h) (event_in bytes)) (after w h).ring
  event_at h b bytes = event_judged (after w h) (along w s h b) bytes

  packet-at : (h : List (List ℕ)) → AllBytes h → (bytes key : List ℕ) → event_in bytes ≡ asks_key 1 key
      → event_of bytes (after w h) ≡ settled (change_of (after w h) (asks_key 1 key)) (after w h).ring
  packet-at h b bytes key q =
      event_at h b bytes ∙ ap (λ (e : Request). settled (change_of (after w h) e) (after w h).ring) q

  module _ (key : List ℕ) (m : ℕ) (P : ℕ → Type 0) where
    -- what is kept at one moment is kept over any fair events after it
    pub kept_between : (d : Settings) (h between : List (List ℕ)) → AllBytes (between ++ h) → Throughout (FairAt w P key m) between h
        → Kept d P key m (after w h).state.table (after w h).state.roster
        → Kept d P key m (after w (between ++ h)).state.table (after w (between ++ h)).state.roster
    unfolding after
    kept_between d h [] b f k = k
    kept_between d h (bytes ∷ between) b f k =
        let g = between ++ h in
        let v = after w g in
        let q = event_at g b.1 bytes in
        let k' = kept_between d h between b.1 f.1 k in
        rw (q, after) (kept-after v (inner w s g b.1) key (reading bytes).key_sized (goes v bytes) d P m (rw (q, FairAt, after, answer) at f.0) k')

    -- demand 3 for any servers P that were all held at the earlier packet
    pub steady_within : (h between : List (List ℕ)) (earlier later : List ℕ) → AllBytes (later ∷ (between ++ (earlier ∷ h)))
        → event_in earlier ≡ asks_key 1 key → event_in later ≡ asks_key 1 key
        → (answer w h earlier).accepted ≡ true → (answer w h earlier).server ≡ m → (answer w h earlier).mark ≢ 4
        → ((x : ℕ) → P x → member x (held_servers (after w h).state.roster) ≡ true)
        → Throughout (FairAt w P key m) between (earlier ∷ h)
        → ((answer w (between ++ (earlier ∷ h)) later).accepted ≡ true) × ((answer w (between ++ (earlier ∷ h)) later).server ≡ m)
    unfolding after
    steady_within h between earlier later b p₁ p₂ a g r within f =
        let b₁ : AllBytes (earlier ∷ h) = bytes_behind between (earlier ∷ h) b.1 in
        let v = after w h in
        let q₁ = packet-at h b₁.1 earlier key p₁ in
        let sized : length key ≡ 13 = rw p₁ at (reading earlier).key_sized in
        let k₁ = kept_first_lem v (inner w s h b₁.1) key sized (served_accepted v key (rw (q₁, answer) at a)) (rw (q₁, answer) at r) P within in
        let d = v.state.roster.settings in
        let k₂ : Kept d P key m (after w (earlier ∷ h)).state.table (after w (earlier ∷ h)).state.roster =
        rw (q₁, after, ← (rw (q₁, answer) at g)) k₁ in
        let l = between ++ (earlier ∷ h) in
        let k₃ = kept_between d (earlier ∷ h) between b.1 f k₂ in
        let (x, y) = kept_last (after w l) (inner w s l b.1) key d P m k₃ in
        rw (packet-at l b.1 later key p₂, answer) (x, y)

-- a packet that is accepted got demand 2's mover
accepted_mover : (w : World) → start_accepted w ≡ true → (h : List (List ℕ)) (bytes key : List ℕ) → AllBytes (bytes ∷ h)
    → event_in bytes ≡ asks_key 1 key → (answer w h bytes).accepted ≡ true
    → (answer w h bytes).server ≡ mover key (after w h).state.table (after w h).state.roster
accepted_mover w s h bytes key b e a =
    let d = ours_obeys w s in
    let works = accepted_works (length w.state.table) (ours w) d h bytes key b e a in
    ap (λ (x : Answer). x.server) (d.packets h bytes key b e works).gets

-- the sentence about two successive packets, with only the first half of the proviso about ends: "fewer than two since the key's record was
-- written". An end of a key without a record changes nothing, so that there be none needn't be asked.
pub ends_enough : (w : World) → start_accepted w ≡ true → Steady (λ h earlier key m between. ProvisosWith (FewerThanTwo (ours w) key) (ours w) h earlier key m between) (ours w)
ends_enough w s h between earlier later key b p₁ p₂ a v =
    let m = (answer w h earlier).server in
    let P : ℕ → Type 0 = λ x. member x (held_servers (after w h).state.roster) ≡ true in
    let (x, y) = steady_within w s key m P h between earlier later b p₁ p₂ a refl v.room_told (λ x q. q)
    (fair_throughout w s key m P (earlier ∷ h) between b.1 v.worked v.ends v.held) in
    record {
      accepted = x;
      same = y;
      first = accepted_mover w s h earlier key (bytes_behind between (earlier ∷ h) b.1) p₁ a;
      last = accepted_mover w s (between ++ (earlier ∷ h)) later key b p₂ x;
    }

-- DEMAND 3 of our engine
pub ours_steady : (w : World) → start_accepted w ≡ true → Demand3 (ours w)
ours_steady w s =
    record {
      once = λ h b front middle back r r' e. distinct_apart front middle back r r' (subst Distinct e (along w s h b).distinct);
      named = λ h b front back r e.
          works_each (after w h).state.roster front back r (subst (AllWorking (after w h).state.roster) e (along w s h b).named);
      steady = λ h between earlier later key b p₁ p₂ a v.
          ends_enough w s h between earlier later key b p₁ p₂ a
          (record {
            worked = v.worked;
            ends = throughout_follows
                (λ g bytes. FewerThanTwo (ours w) key g bytes × NoneWithout (ours w) key g bytes)
                (FewerThanTwo (ours w) key)
                between
                (earlier ∷ h)
                b.1
                (λ g bytes c q. q.0)
                v.ends;
            held = v.held;
            room_told = v.room_told;
          });
    }
