-- A capture of which some bytes have come, and shorter bytes that stand for them: whatever comes, the outcomes are those of the packets
-- that are done and then those of the shorter bytes; the refusal is the same, and its place differs by the bytes that are done.
use Prim.Native.Nat.{ℕ, ◌+◌, ◌-◌, ◌≤◌}
use mathlib.Core.Bool.{true}
use mathlib.Core.List.{List, [], ◌∷◌, ◌++◌, append_assoc, append-nil}
use mathlib.Core.Path.{◌≡◌, refl, sym, ap, ◌∙◌}
use native.Mathlib.Omega.{arith}
use lib.Dec.{eqb}
use lib.ListN.{length, take, drop, length-append, length-drop}
use lib.Seq.{length-take-le}
use borrow.Author.Tests.{eqb-true}
use Rattle.pcap.specs.Captures.{header_refusal, header_bytes, packets_in, outcomes_in, refusal_in, refused_at, read_in}
use Rattle.claims_captures.specs.Captured.{carried_on}
use Rattle.claims_captures.proofs.Files.{refusal_same, sound_long, refused-behind, refused_within}
use Rattle.claims_captures.proofs.Stands.{before_stands, outcomes_on, carried, longer}
use Rattle.claims_captures.proofs.Windows.{kept_from}
use Rattle.frames.specs.Frames.{Outcome}

pub record Carries (come q : List ℕ) (done : List Outcome) (before : ℕ) : Type 0 where
  pub shorter : length q ≤ length come
  pub header_on : (g : List ℕ) → header_refusal (come ++ g) ≡ header_refusal (q ++ g)
  pub all_on : (g : List ℕ) → outcomes_in (come ++ g) ≡ done ++ outcomes_in (q ++ g)
  pub refused_on : (g : List ℕ) → refusal_in (come ++ g) ≡ refusal_in (q ++ g)
  pub place_on : (g : List ℕ) → eqb (header_refusal (q ++ g)) 0 ≡ true → refused_at (come ++ g) ≡ before + refused_at (q ++ g)

-- bytes stand for themselves
pub carries_none : (q : List ℕ) → Carries q q [] 0
carries_none q = record { shorter = omega arith; header_on = λ g. refl; all_on = λ g. refl; refused_on = λ g. refl; place_on = λ g _. omega arith }

-- where nothing more comes
module _ {come q : List ℕ} {done : List Outcome} {before : ℕ} (c : Carries come q done before) where
  pub header_now : header_refusal come ≡ header_refusal q
  header_now = rw (append-nil come, append-nil q) at (c.header_on [])

  pub all_now : outcomes_in come ≡ done ++ outcomes_in q
  all_now = ap outcomes_in (sym (append-nil come)) ∙ c.all_on [] ∙ ap (λ (l : List ℕ). done ++ outcomes_in l) (append-nil q)

  pub refused_now : refusal_in come ≡ refusal_in q
  refused_now = rw (append-nil come, append-nil q) at (c.refused_on [])

  pub place_now : eqb (header_refusal q) 0 ≡ true → refused_at come ≡ before + refused_at q
  place_now sound = rw (append-nil come, append-nil q) at (c.place_on [] (rw (append-nil q) sound))

-- a piece comes
pub carries_piece : {come q : List ℕ} {done : List Outcome} {before : ℕ} (p : List ℕ) → Carries come q done before
    → Carries (come ++ p) (q ++ p) done before
carries_piece {come} {q} {done} {before} p c =
    record {
      shorter = rw (length-append come p, length-append q p) (omega (arith, c.shorter));
      header_on = λ g. rw (append_assoc come p g, append_assoc q p g) (c.header_on (p ++ g));
      all_on = λ g. rw (append_assoc come p g, append_assoc q p g) (c.all_on (p ++ g));
      refused_on = λ g. rw (append_assoc come p g, append_assoc q p g) (c.refused_on (p ++ g));
      place_on = λ g sound. rw (append_assoc come p g, append_assoc q p g) (c.place_on (p ++ g) (rw (append_assoc q p g) at sound));
    }

-- what is kept of bytes that were read, with more behind, is what is carried on
kept_on : (q g : List ℕ) → carried_on q g ≡ kept_from q (refused_at q) ++ g
kept_on q g = sym (append_assoc (take header_bytes q) (drop (refused_at q) q) g)

-- the bytes are read, as far as their records are whole
pub carries_read : {come q : List ℕ} {done : List Outcome} {before : ℕ} → eqb (header_refusal q) 0 ≡ true → Carries come q done before
    → Carries come (kept_from q (refused_at q)) (done ++ outcomes_in q) (before + (refused_at q - header_bytes))
carries_read {come} {q} {done} {before} sound c =
    let zero-refusal = eqb-true (header_refusal q) 0 sound in
    let header : (g : List ℕ) → header_refusal (q ++ g) ≡ header_refusal (kept_from q (refused_at q) ++ g) =
    λ g. refusal_same (longer q g sound) ∙ sym (refusal_same (carried q g sound)) ∙ ap header_refusal (kept_on q g) in
    record {
      shorter =
          rw (length-append (take header_bytes q) (drop (refused_at q) q), length-take-le header_bytes q (sound_long q sound), length-drop (refused_at q) q)
          (omega (arith, c.shorter, refused-behind q sound, refused_within q sound));
      header_on = λ g. c.header_on g ∙ header g;
      all_on = λ g.
          c.all_on g
          ∙ ap (λ (os : List Outcome). done ++ os) (outcomes_on q g sound)
          ∙ sym (append_assoc done (outcomes_in q) (outcomes_in (carried_on q g)))
          ∙ ap (λ (l : List ℕ). (done ++ outcomes_in q) ++ outcomes_in l) (kept_on q g);
      refused_on = λ g. c.refused_on g ∙ (before_stands q g zero-refusal).refusal_goes_on ∙ ap refusal_in (kept_on q g);
      place_on = λ g sound'.
          let stands = (before_stands q g zero-refusal).place_goes_on in
          let same = ap refused_at (kept_on q g) in
          c.place_on g (ap (λ (n : ℕ). eqb n 0) (header g) ∙ sound') ∙ omega arith;
    }

-- nothing whole is left then
none_of : (ps : List (List ℕ)) → length ps ≡ 0 → ps ≡ []
none_of [] e = refl
none_of (p ∷ ps) e = absurd (omega arith)

pub kept-none : (q : List ℕ) → eqb (header_refusal q) 0 ≡ true → packets_in (kept_from q (refused_at q)) ≡ []
kept-none q sound =
    let stands = (before_stands q [] (eqb-true (header_refusal q) 0 sound)).reads_go_on in
    let same = ap read_in (append-nil q) in
    ap packets_in (sym (append-nil (kept_from q (refused_at q))) ∙ sym (kept_on q [])) ∙ none_of (packets_in (carried_on q [])) (omega arith)
