-- A stream gives, at every moment, what is defined from the bytes that have come.
use Prim.Native.Nat.{ℕ, suc, ◌+◌, ◌*◌, ◌-◌, ◌<◌, ◌≤◌, ◌%◌, ◌^◌}
use mathlib.Core.Bool.{Bool, true, false, cond}
use mathlib.Core.List.{List, [], ◌∷◌, ◌++◌, map, append-nil, append_assoc}
use mathlib.Core.Logic.{◌⊎◌, inl, inr}
use mathlib.Core.Path.{◌≡◌, refl, sym, ap, ◌∙◌}
use native.Mathlib.Omega.{arith}
use lib.Dec.{eqb, leb, ltb}
use lib.ListN.{length, set, take, drop, replicate, length-set, length-drop, length-replicate}
use lib.Seq.{length-take-le, take-suc-set}
use borrow.Author.Tests.{eq-eqb, ne_eqb, eqb-true, eqb-false, ltb-true, ltb-false, leb-true, leb-false}
use Rattle.sets.proofs.Cases.{both, clash}
use Rattle.frames.specs.Frames.{Outcome, outcome, emitted}
use Rattle.pcap.specs.declared.Tally.{Tally}
use Rattle.pcap.specs.Captures.{low_first, high_first, ethernet, header_refusal, header_bytes, record_size, whole, packets_in, outcomes_in, refusal_in, refused_at, short_record, all_events, step_at, meets}
use Rattle.pieces.specs.Pieces.{joined}
use Rattle.pieces.specs.Streams.{Stream, beginning, last_said, last_refusal, ending}
use Rattle.pcap.proofs.Files.{whole_there}
use Rattle.claims_captures.specs.Captured.{sums_of}
use Rattle.claims_captures.specs.Fed.{Arrives, Fed, begins, comes, SameAs, PiecesSame, PiecesExactly, Feeds, AnyLength}
use Rattle.claims_captures.proofs.Records.{left_of, size_whole, packets-first, packets-none, left_all}
use Rattle.claims_captures.proofs.Files.{low_same, refusal_same, header_append, sound_long, packets-behind, refusal_left, refused_left, packets_bad, refusal_bad, refused_bad, refused_within}
use Rattle.claims_captures.proofs.Sums.{counting_sums}
use Rattle.claims_captures.proofs.ReadAll.{file_exact, step_bad, step_end, step_short, step_packet}
use Rattle.claims_captures.proofs.Windows.{cut_window, cut_header, cut_length, cut_captured}
use Rattle.claims_captures.proofs.Carries.{header_now, all_now, refused_now, place_now}
use Rattle.claims_captures.proofs.Streams.{Plain, Long, Bad, Held, plain, long, bad, Along, along}

-- ---- the refusal of bytes without a whole record

-- a sound header, and no whole record behind it
module _ (q : List ℕ) (sound : eqb (header_refusal q) 0 ≡ true) (w : whole (low_first q) (drop header_bytes q) ≡ false) where
  left_is : left_of (low_first q) (drop header_bytes q) ≡ drop header_bytes q
  left_is = left_all (low_first q) (drop header_bytes q) w

  refused-first : refused_at q ≡ header_bytes
  refused-first =
      refused_left q sound
      ∙ ap (λ (l : List ℕ). length q - length l) left_is
      ∙ omega (arith, length-drop header_bytes q, sound_long q sound)

  refusal_first : refusal_in q ≡ cond (eqb (length q - header_bytes) 0) 0 short_record
  refusal_first =
      refusal_left q sound ∙ ap (λ (l : List ℕ). cond (eqb (length l) 0) 0 short_record) left_is ∙ rw (length-drop header_bytes q)

  says_first : (t : Tally) → last_said (step_at q header_bytes t).said ≡ refusal_in q
  says_first t =
      both (ltb header_bytes (length q)) (λ m.
      let more = ltb-true header_bytes (length q) m in
      rw (step_short q header_bytes t sound more w, refusal_first, ne_eqb (length q - header_bytes) 0 (λ e. omega arith))) (λ m.
      let over = ltb-false header_bytes (length q) m in
      rw (step_end q header_bytes t sound over, refusal_first, eq-eqb (length q - header_bytes) 0 (omega arith)))

no_whole : (q : List ℕ) → eqb (header_refusal q) 0 ≡ true → packets_in q ≡ [] → whole (low_first q) (drop header_bytes q) ≡ false
no_whole q sound none =
    both (whole (low_first q) (drop header_bytes q)) (λ w.
    let some = ap length (sym none ∙ packets-behind q sound ∙ packets-first (low_first q) (drop header_bytes q) w) in absurd (omega arith)) (λ w. w)

-- a refused header
says_bad : (q : List ℕ) (t : Tally) → eqb (header_refusal q) 0 ≡ false → last_said (step_at q header_bytes t).said ≡ header_refusal q
says_bad q t refused = rw (step_bad q header_bytes t refused)

header_other_number : (q : List ℕ) → header_refusal q ≡ short_record → ⊥
unfolding header_refusal
header_other_number q e =
    both (ltb (length q) 4) (λ a. let z = rw a at e in absurd (omega arith)) (λ a.
    both (cond (low_first q) true (high_first q)) (λ m.
    both (ltb (length q) header_bytes) (λ n. let z = rw (a, m, n) at e in absurd (omega arith)) (λ n. let z = rw (a, m, n) at e in absurd (omega arith)))
    (λ m. let z = rw (a, m) at e in absurd (omega arith)))

short_sound : (q : List ℕ) → refusal_in q ≡ short_record → eqb (header_refusal q) 0 ≡ true
short_sound q e =
    both (eqb (header_refusal q) 0) (λ sound. sound) (λ refused. absurd (header_other_number q (sym (refusal_bad q refused) ∙ e)))

-- a packet is no refusal
says-packet : (o : Outcome) (at next : ℕ) (t : Tally) → last_said (meets o at next t).said ≡ 0
unfolding meets
says-packet o at next t =
    both (eqb o.reason emitted) (λ e. rw e
    (both o.fin (λ fin. rw fin (both t.due (λ due. rw due) (λ due. rw due))) (λ fin. rw fin)))
    (λ e. rw e)

-- ---- where a refusal stands

-- only 22 stands behind the first byte
elsewhere : (f : List ℕ) → (refusal_in f ≡ short_record → ⊥) → (refusal_in f ≡ 0 → ⊥) → refused_at f ≡ 0
elsewhere f other some =
    both (eqb (header_refusal f) 0) (λ sound.
    both (eqb (length (left_of (low_first f) (drop header_bytes f))) 0) (λ z. absurd (some (refusal_left f sound ∙ rw z)))
    (λ z. absurd (other (refusal_left f sound ∙ rw z)))) (λ refused. refused_bad f refused)

ends_at : (b : List ℕ) (s : Stream) (f : List ℕ) → last_refusal b s ≡ refusal_in f
    → (refusal_in f ≡ short_record → (s.before + header_bytes) % 2 ^ 64 ≡ refused_at f % 2 ^ 64)
    → (ending b s).at ≡ cond (eqb (refusal_in f) 0) 0 (refused_at f % 2 ^ 64)
unfolding ending
ends_at b s f same place =
    rw same
    (both (eqb (refusal_in f) short_record) (λ e.
    let short = eqb-true (refusal_in f) short_record e in rw short (place short)) (λ e.
    rw e
    (both (eqb (refusal_in f) 0) (λ z. rw z) (λ z.
    rw (z, elsewhere f (eqb-false (refusal_in f) short_record e) (eqb-false (refusal_in f) 0 z))))))

ends_by : (b : List ℕ) (s : Stream) → (ending b s).refusal ≡ last_refusal b s
unfolding ending
ends_by b s = refl

-- ---- the stream's own answer, by what the buffer holds

abbrev says : List ℕ → Stream → ℕ
says b s = last_said (step_at (take s.have b) header_bytes s.tally).said

-- no packet is passed over
last_plain : (b : List ℕ) (s : Stream) → s.pass ≡ 0 → last_refusal b s ≡ says b s
last_plain b s none = both (eqb (says b s) 0) (λ z. rw (z, none, eqb-true (says b s) 0 z)) (λ z. rw z)

refusal_plain : (L : ℕ) (q : List ℕ) (before : ℕ) (b : List ℕ) (s : Stream) → Plain L q before b s → last_refusal b s ≡ refusal_in q
refusal_plain L q before b s h =
    last_plain b s h.no_pass
    ∙ ap (λ (w : List ℕ). last_said (step_at w header_bytes s.tally).said) h.window
    ∙ both (eqb (header_refusal q) 0) (λ sound. says_first q sound (no_whole q sound h.none-whole) s.tally)
    (λ refused. says_bad q s.tally refused ∙ sym (refusal_bad q refused))

refusal_bad_header : (L : ℕ) (q b : List ℕ) (s : Stream) → Bad L q b s → last_refusal b s ≡ refusal_in q
refusal_bad_header L q b s h =
    let same = refusal_same h.header in
    let e : says b s ≡ header_refusal q = says_bad (take s.have b) s.tally (ap (λ (n : ℕ). eqb n 0) same ∙ h.bad) ∙ same in
    rw (e, h.bad) (sym (refusal_bad q h.bad))

-- the first record of a long packet's bytes isn't whole; that of the window is
module _ (L : ℕ) (q : List ℕ) (before : ℕ) (b : List ℕ) (s : Stream) (h : Long L q before b s) where
  long_whole : whole (low_first q) (drop header_bytes q) ≡ false
  long_whole =
      both (whole (low_first q) (drop header_bytes q)) (λ w.
      absurd (omega (arith, whole_there (low_first q) (drop header_bytes q) w, length-drop header_bytes q, h.pass_is, h.passes, h.many))) (λ w. w)

  cut_size : record_size (low_first (cut_window q)) (drop header_bytes (cut_window q)) ≡ 104
  cut_size =
      ap (λ (low : Bool). record_size low (drop header_bytes (cut_window q))) (low_same (cut_header q h.many))
      ∙ ap (λ (n : ℕ). 16 + n) (cut_captured q h.many)

  cut_whole : whole (low_first (cut_window q)) (drop header_bytes (cut_window q)) ≡ true
  cut_whole =
      size_whole (low_first (cut_window q)) (drop header_bytes (cut_window q))
      (rw (length-drop header_bytes (cut_window q), cut_length q h.many) (omega (arith, cut_size)))

  says_long : says b s ≡ 0
  says_long =
      ap (λ (n : ℕ). last_said (step_at (take n b) header_bytes s.tally).said) h.have_is
      ∙ ap (λ (w : List ℕ). last_said (step_at w header_bytes s.tally).said) h.window
      ∙ rw
      (step_packet (cut_window q) header_bytes s.tally (ap (λ (n : ℕ). eqb n 0) (refusal_same (cut_header q h.many)) ∙ h.sound)
      (omega (arith, cut_length q h.many)) cut_whole)
      (says-packet _ _ _ s.tally)

  refusal_long : last_refusal b s ≡ refusal_in q
  refusal_long =
      rw
      (says_long, ne_eqb s.pass 0 (λ e. omega (arith, h.passes)), refusal_first q h.sound long_whole, ne_eqb (length q - header_bytes) 0 (λ e. omega (arith, h.many)))

refusal_held : (L : ℕ) (q : List ℕ) (before : ℕ) (b : List ℕ) (s : Stream) → Held L q before b s → last_refusal b s ≡ refusal_in q
refusal_held L q before b s (plain h) = refusal_plain L q before b s h
refusal_held L q before b s (long h) = refusal_long L q before b s h
refusal_held L q before b s (bad h) = refusal_bad_header L q b s h

-- a sound header: where the first record stands, and that it isn't whole
place_held : (L : ℕ) (q : List ℕ) (before : ℕ) (b : List ℕ) (s : Stream) → Held L q before b s → eqb (header_refusal q) 0 ≡ true
    → (s.before + header_bytes) % 2 ^ 64 ≡ (before + refused_at q) % 2 ^ 64
place_held L q before b s (plain h) sound =
    rw (refused-first q sound (no_whole q sound h.none-whole)) (omega (arith, h.before-is))
place_held L q before b s (long h) sound = rw (refused-first q sound (long_whole L q before b s h)) (omega (arith, h.before-is))
place_held L q before b s (bad h) sound = clash sound h.bad

-- no packets are left to come of the bytes themselves
none_held : (L : ℕ) (q : List ℕ) (before : ℕ) (b : List ℕ) (s : Stream) → Held L q before b s → packets_in q ≡ []
none_held L q before b s (plain h) = h.none-whole
none_held L q before b s (long h) = packets-behind q h.sound ∙ packets-none (low_first q) (drop header_bytes q) (long_whole L q before b s h)
none_held L q before b s (bad h) = packets_bad q h.bad

-- there is room for at least one byte more
short_size : (low : Bool) (bytes : List ℕ) → whole low bytes ≡ false → length bytes < record_size low bytes
short_size low bytes w =
    both (leb (record_size low bytes) (length bytes)) (λ e. clash (size_whole low bytes (leb-true (record_size low bytes) (length bytes) e)) w)
    (λ e. leb-false (record_size low bytes) (length bytes) e)

room_held : (L : ℕ) (q : List ℕ) (before : ℕ) (b : List ℕ) (s : Stream) → Held L q before b s → eqb (header_refusal q) 0 ≡ true → 128 < L → s.have < L
room_held L q before b s (plain h) sound more =
    let n : length q ≡ s.have = ap length (sym h.window) ∙ length-take-le s.have b (omega (arith, h.size, h.within)) in
    both (ltb (length q) 128) (λ few. omega (arith, ltb-true (length q) 128 few)) (λ few.
    omega (arith, h.has_room (ltb-false (length q) 128 few), short_size (low_first q) (drop header_bytes q) (no_whole q sound h.none-whole), length-drop header_bytes q))
room_held L q before b s (long h) sound more = omega (arith, h.have_is)
room_held L q before b s (bad h) sound more = clash sound h.bad

-- fewer bytes than a header: they are all in the window
few_held : (L : ℕ) (q : List ℕ) (before : ℕ) (b : List ℕ) (s : Stream) → Held L q before b s → length q < header_bytes → 128 < L → s.have < L
few_held L q before b s (plain h) few more =
    let n = length-take-le s.have b (omega (arith, h.size, h.within)) in omega (arith, ap length h.window)
few_held L q before b s (long h) few more = absurd (omega (arith, h.many))
few_held L q before b s (bad h) few more = absurd (omega (arith, h.header.long'))

-- ---- the theorem

room_along : (L : ℕ) (come given b : List ℕ) (s : Stream) → Along L come given b s → (length come < header_bytes) ⊎ (header_refusal come ≡ 0) → 128 < L
    → s.have < L
room_along L come given b s h (inl few) more = few_held L h.q h.before b s h.held (omega (arith, h.carries.shorter)) more
room_along L come given b s h (inr e) more =
    room_held L h.q h.before b s h.held (eq-eqb (header_refusal h.q) 0 (sym (header_now h.carries) ∙ e)) more

same_as : (L : ℕ) (come given b : List ℕ) (s : Stream) → Along L come given b s → SameAs L come given b s
same_as L come given b s h =
    let none = none_held L h.q h.before b s h.held in
    let outcomes : outcomes_in come ≡ h.done =
    all_now h.carries
    ∙ ap (λ (ps : List (List ℕ)). h.done ++ map (outcome (ethernet h.q)) ps) none
    ∙ append-nil h.done in
    let refusal : last_refusal b s ≡ refusal_in come = refusal_held L h.q h.before b s h.held ∙ sym (refused_now h.carries) in
    record {
      events_same = h.given_are ∙ ap (λ (os : List Outcome). joined (all_events os)) (sym outcomes);
      sums_same = h.tally_is ∙ counting_sums h.done ∙ ap sums_of (sym outcomes);
      refusal_same = ends_by b s ∙ refusal;
      place_same =
          ends_at b s come refusal (λ e.
          let sound = short_sound h.q (sym (refused_now h.carries) ∙ e) in
          place_held L h.q h.before b s h.held sound ∙ ap (λ (n : ℕ). n % 2 ^ 64) (sym (place_now h.carries sound)));
      room_left = room_along L come given b s h;
    }

pub pieces_same : PiecesSame
pieces_same L come given b s big fed = same_as L come given b s (along L big fed)

-- ---- sums and place that fit

refused_small : (f : List ℕ) → refused_at f ≤ length f
refused_small f =
    both (eqb (header_refusal f) 0) (λ sound. refused_within f sound) (λ refused. rw (refused_bad f refused) (omega arith))

pub pieces_exactly : PiecesExactly
pieces_exactly L come given b s big fed small =
    let same = pieces_same L come given b s big fed in
    let place : refused_at come % 2 ^ 64 ≡ refused_at come = omega (arith, refused_small come) in
    record {
      sums_exact = same.sums_same ∙ file_exact come small;
      place_exact = same.place_same ∙ ap (cond (eqb (refusal_in come) 0) 0) place;
    }

-- ---- any length

size_held : (L : ℕ) (q : List ℕ) (before : ℕ) (b : List ℕ) (s : Stream) → Held L q before b s → length b ≡ L
size_held L q before b s (plain h) = h.size
size_held L q before b s (long h) = h.size
size_held L q before b s (bad h) = h.size

-- one byte more, behind the window
arrives_one : (b : List ℕ) (s : Stream) (x : ℕ) → s.have < length b → Arrives b s (x ∷ []) (set b s.have x)
arrives_one b s x room =
    let one : s.have + 1 ≡ suc s.have = omega arith in
    record {
      length_stays = length-set b s.have x;
      stands = ap (λ (n : ℕ). take n (set b s.have x)) one ∙ take-suc-set b s.have x room;
      fits = omega arith;
      no_further = λ some. omega arith;
    }

-- a sound header: what comes first is shorter than one, or begins with it
first-sound : (come more : List ℕ) → header_refusal (come ++ more) ≡ 0 → (length come < header_bytes) ⊎ (header_refusal come ≡ 0)
first-sound come more e =
    both (ltb (length come) header_bytes) (λ few. inl (ltb-true (length come) header_bytes few)) (λ few.
    inr (sym (refusal_same (header_append come more (ltb-false (length come) header_bytes few))) ∙ e))

feeds_on : (L : ℕ) → 128 < L → (more come given b : List ℕ) (s : Stream) → Fed L come given b s → header_refusal (come ++ more) ≡ 0
    → Feeds L (come ++ more)
feeds_on L big [] come given b s fed e = record { given = given; buffer = b; stream = s; fed = rw (append-nil come) fed }
feeds_on L big (x ∷ more) come given b s fed e =
    let h = along L (omega arith) fed in
    let size = size_held L h.q h.before b s h.held in
    let room = room_along L come given b s h (first-sound come (x ∷ more) e) big in
    let out : List ℕ = replicate (2 * L) 0 in
    let wide : 2 * L ≤ length out = rw (length-replicate {A = ℕ} (2 * L) 0) (omega arith) in
    rw (append_assoc come (x ∷ []) more) at
    (feeds_on L big more (come ++ (x ∷ [])) _ _ _ (comes fed (x ∷ []) (set b s.have x) out (arrives_one b s x (omega arith)) wide)
    (rw (append_assoc come (x ∷ []) more) e))

pub any-length : AnyLength
any-length L f big e =
    feeds_on L big f [] [] (replicate L 0) beginning (begins (replicate L 0) (length-replicate L 0)) e
