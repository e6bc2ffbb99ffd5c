-- A stream of pieces stands for all bytes that have come: what holds of it at every moment.
use Prim.Native.Nat.{ℕ, ◌+◌, ◌*◌, ◌-◌, ◌<◌, ◌≤◌, ◌%◌, ◌^◌}
use mathlib.Core.Bool.{true, false}
use mathlib.Core.List.{List, [], ◌++◌, append-nil}
use mathlib.Core.Path.{◌≡◌, refl, sym, ap, ◌∙◌}
use native.Mathlib.Omega.{arith}
use lib.Dec.{eqb, ltb}
use lib.ListN.{length, take, drop, length-append, take-append-drop}
use lib.Seq.{length-take-le, take-take, take-append-le}
use borrow.Author.Tests.{lt-ltb, le-ltb, le-leb, eq-eqb, ne_eqb, eqb-true, eqb-false, ltb-true, ltb-false}
use Rattle.sets.proofs.Cases.{both}
use Rattle.event.specs.Event.{event_bytes}
use Rattle.pcap.specs.declared.Tally.{Tally}
use Rattle.pcap.specs.Captures.{Refused, low_first, header_refusal, header_bytes, captured, packets_in, outcomes_in, all_events, refused_at, nothing}
use Rattle.pieces.specs.declared.Kept.{Kept}
use Rattle.pieces.specs.Pieces.{Ran, stopped, room_for, joined, most_read, written, settled_buffer, settled_kept}
use Rattle.pieces.specs.Streams.{Stream, beginning, grown, passing, passed_over, Taken, taken_in, window_done, window_read, onwards, taken}
use Rattle.claims_captures.specs.Fed.{Arrives, Fed, begins, comes}
use Rattle.claims_captures.proofs.Files.{SameHeader, refusal_same, packets_bad, header_append, header_other, refused_within, refused-behind, sound_long}
use Rattle.claims_captures.proofs.Sums.{counting, counting-append, counting_due}
use Rattle.claims_captures.proofs.Stands.{events_append}
use Rattle.claims_captures.proofs.Windows.{kept_from, kept-length, cut_window, cut_header, first_size, first_size_lem, cut_append, Settled, all, first, settles}
use Rattle.claims_captures.proofs.Cut.{refused_end, cut_sound, cut_refused, cut_outcomes, cut_kept}
use Rattle.claims_captures.proofs.Carries.{Carries, carries_none, carries_piece, carries_read, kept-none}
use Rattle.claims_captures.proofs.WindowRead.{events_room, joined-append, WindowRead, reads_window, reads_bad_window}
use Rattle.frames.specs.Frames.{Outcome}

-- ---- what the buffer holds of the bytes q that stand for all that have come

-- the bytes themselves: no whole record is left, and where a record's first 104 bytes are there, the buffer has room for it
pub record Plain (L : ℕ) (q : List ℕ) (before : ℕ) (b : List ℕ) (s : Stream) : Type 0 where
  pub size : length b ≡ L
  pub within : s.have ≤ L
  pub window : take s.have b ≡ q
  pub no_pass : s.pass ≡ 0
  pub before-is : s.before ≡ before % 2 ^ 64
  pub none-whole : packets_in q ≡ []
  pub has_room : 128 ≤ length q → header_bytes + first_size q ≤ L

-- the first bytes of a record that is passed over
pub record Long (L : ℕ) (q : List ℕ) (before : ℕ) (b : List ℕ) (s : Stream) : Type 0 where
  pub size : length b ≡ L
  pub have_is : s.have ≡ 128
  pub window : take 128 b ≡ cut_window q
  pub sound : eqb (header_refusal q) 0 ≡ true
  pub many : 128 ≤ length q
  pub passes : 0 < s.pass
  pub pass_is : length q + s.pass ≡ header_bytes + first_size q
  pub longer_is : captured (low_first q) (drop header_bytes q) ≡ most_read + s.longer
  pub before-is : s.before ≡ before % 2 ^ 64

-- a header that is refused: the window begins with it
pub record Bad (L : ℕ) (q b : List ℕ) (s : Stream) : Type 0 where
  pub size : length b ≡ L
  pub within : s.have ≤ L
  pub header : SameHeader (take s.have b) q
  pub bad : eqb (header_refusal q) 0 ≡ false

pub data Held (L : ℕ) (q : List ℕ) (before : ℕ) (b : List ℕ) (s : Stream) : Type 0 where
  plain : Plain L q before b s → Held L q before b s
  long : Long L q before b s → Held L q before b s
  bad : Bad L q b s → Held L q before b s

-- ---- what holds at every moment

pub record Along (L : ℕ) (come given b : List ℕ) (s : Stream) : Type 0 where
  pub q : List ℕ
  pub done : List Outcome
  pub before : ℕ
  pub carries : Carries come q done before
  pub given_are : given ≡ joined (all_events done)
  pub tally_is : s.tally ≡ counting done nothing
  pub held : Held L q before b s

-- after a piece is taken in
abbrev AlongTaken : ℕ → List ℕ → List ℕ → Taken → Type 0
AlongTaken L come given t = Along L come (given ++ take t.answer.filled t.out) t.buffer t.answer.stream

due_none : (t : Tally) (done : List Outcome) → t ≡ counting done nothing → t.due ≡ false
due_none t done e = ap (λ (u : Tally). u.due) e ∙ counting_due done nothing refl

-- ---- a window with a sound header is read

-- what is kept of it
held_settled : (L : ℕ) (v b : List ℕ) (k : Kept) (before : ℕ) (s : Stream) → 128 ≤ L → length v ≤ L → eqb (header_refusal v) 0 ≡ true → packets_in v ≡ []
    → Settled L v b k → s.have ≡ k.have → s.pass ≡ k.pass → s.longer ≡ k.longer → s.before ≡ before % 2 ^ 64 → Held L v before b s
held_settled L v b k before s big short sound none (all size window have pass room) sh sp sl sb =
    plain
    record {
      size = size;
      within = omega arith;
      window = rw sh window;
      no_pass = sp ∙ pass;
      before-is = sb;
      none-whole = none;
      has_room = room;
    }
held_settled L v b k before s big short sound none (first size window have many over pass longer) sh sp sl sb =
    long
    record {
      size = size;
      have_is = sh ∙ have;
      window = window;
      sound = sound;
      many = many;
      passes = omega arith;
      pass_is = omega arith;
      longer_is = omega arith;
      before-is = sb;
    }

module _ (L : ℕ) (come given b out : List ℕ) (s : Stream) (q : List ℕ) (done : List Outcome) (before : ℕ) (big : 128 ≤ L) (size : length b ≡ L)
    (long : header_bytes ≤ s.have) (within : s.have ≤ L) (room : 2 * L ≤ length out) (sound : eqb (header_refusal q) 0 ≡ true)
    (c : Carries come q done before) (given_are : given ≡ joined (all_events done)) (tally_is : s.tally ≡ counting done nothing) where
  abbrev w : List ℕ
  w = take s.have b

  w_length : length w ≡ s.have
  w_length = length-take-le s.have b (omega arith)

  kept-sound : eqb (header_refusal (kept_from q (refused_at q))) 0 ≡ true
  kept-sound = ap (λ (n : ℕ). eqb n 0) (refusal_same (header_other q (drop (refused_at q) q) (sound_long q sound))) ∙ sound

  -- the window holds the bytes, or it is another with the same outcomes of which the same is kept
  module _ (sound-w : eqb (header_refusal w) 0 ≡ true) (outcomes : outcomes_in w ≡ outcomes_in q)
      (kept : kept_from w (refused_at w) ≡ kept_from q (refused_at q))
      (place : (s.before + (refused_at w - header_bytes)) % 2 ^ 64 ≡ (before + (refused_at q - header_bytes)) % 2 ^ 64) where
    settled-kept : Settled L (kept_from q (refused_at q)) (settled_buffer b s.have (refused_at w)) (settled_kept b s.have (refused_at w))
    settled-kept =
        rw (sym kept, sym size)
        (settles b s.have (refused_at w) (refused-behind w sound-w) (rw w_length at (refused_within w sound-w)) (omega arith))

    kept-short : length (kept_from q (refused_at q)) ≤ L
    kept-short =
        rw (sym kept)
        (let n = kept-length b s.have (refused_at w) (refused-behind w sound-w) (rw w_length at (refused_within w sound-w)) (omega arith) in
        omega (arith, refused-behind w sound-w, rw w_length at (refused_within w sound-w)))

    done-with : (r : Ran) → WindowRead w out s.tally r
        → Along L come (given ++ take (event_bytes * length r.events) (written r out))
        (settled_buffer b s.have r.at) (onwards s r (settled_kept b s.have r.at))
    done-with r read =
        record {
          q = kept_from q (refused_at q);
          done = done ++ outcomes_in q;
          before = before + (refused_at q - header_bytes);
          carries = carries_read sound c;
          given_are =
              rw (read.given_is, given_are, outcomes, events_append done (outcomes_in q), joined-append (all_events done) (all_events (outcomes_in q)));
          tally_is = rw (read.tally_is, outcomes, tally_is, counting-append done (outcomes_in q) nothing);
          held =
              rw read.at-is
              (held_settled L (kept_from q (refused_at q)) (settled_buffer b s.have (refused_at w)) (settled_kept b s.have (refused_at w))
              (before + (refused_at q - header_bytes)) _ big kept-short kept-sound (kept-none q sound) settled-kept refl refl refl place);
        }

    done-sound : AlongTaken L come given (window_done b out s)
    done-sound =
        done-with (window_read b out s)
        (reads_window (room_for out) w out s.tally sound-w (due_none s.tally done tally_is)
        (events_room w out (omega (arith, w_length)) (omega (arith, w_length))))

-- ---- a window whose header is refused

same_itself : (f : List ℕ) → header_bytes ≤ length f → SameHeader f f
same_itself f n = record { long = n; long' = n; same = λ i h. refl }

same_back : {f g : List ℕ} → SameHeader f g → SameHeader g f
same_back x = record { long = x.long'; long' = x.long; same = λ i h. sym (x.same i h) }

same_over : {f g h : List ℕ} → SameHeader f g → SameHeader g h → SameHeader f h
same_over x y = record { long = x.long; long' = y.long'; same = λ i h. x.same i h ∙ y.same i h }

-- whatever is kept of it begins with the header
bad_settled : (L : ℕ) (v b : List ℕ) (k : Kept) (q : List ℕ) (s : Stream) → 128 ≤ L → length v ≤ L → SameHeader v q → eqb (header_refusal q) 0 ≡ false
    → Settled L v b k → s.have ≡ k.have → Bad L q b s
bad_settled L v b k q s big short header refused (all size window have pass room) sh =
    record { size = size; within = omega arith; header = rw (sh, window) header; bad = refused }
bad_settled L v b k q s big short header refused (first size window have many over pass longer) sh =
    record {
      size = size;
      within = omega arith;
      header = rw (sh, have, window) (same_over (cut_header v many) header);
      bad = refused;
    }

module _ (L : ℕ) (come given b out : List ℕ) (s : Stream) (q : List ℕ) (done : List Outcome) (before : ℕ) (big : 128 ≤ L) (size : length b ≡ L)
    (within : s.have ≤ L) (room : 2 * L ≤ length out) (header : SameHeader (take s.have b) q) (refused : eqb (header_refusal q) 0 ≡ false)
    (c : Carries come q done before) (given_are : given ≡ joined (all_events done)) (tally_is : s.tally ≡ counting done nothing) where
  v_length : length (take s.have b) ≡ s.have
  v_length = length-take-le s.have b (omega arith)

  bad_window : Along L come (given ++ [])
      (settled_buffer b s.have header_bytes)
      (onwards s (stopped (Refused (header_refusal (take s.have b))) header_bytes s.tally) (settled_kept b s.have header_bytes))
  bad_window =
      let long : header_bytes ≤ s.have = omega (arith, header.long, v_length) in
      record {
        q = q;
        done = done;
        before = before;
        carries = c;
        given_are = append-nil given ∙ given_are;
        tally_is = tally_is;
        held =
            bad
            (bad_settled L (take s.have b) (settled_buffer b s.have header_bytes) (settled_kept b s.have header_bytes) q _ big (omega (arith, v_length))
            header refused
            (rw (sym size, sym (take-append-drop header_bytes (take s.have b))) (settles b s.have header_bytes (omega arith) long (omega arith))) refl);
      }

  done_bad : AlongTaken L come given (window_done b out s)
  done_bad =
      let refused-w : eqb (header_refusal (take s.have b)) 0 ≡ false = ap (λ (n : ℕ). eqb n 0) (refusal_same header) ∙ refused in
      rw (reads_bad_window (room_for out) (take s.have b) s.tally refused-w (omega arith)) bad_window

-- ---- a piece is taken in, by the stream's own tests

module _ (b out : List ℕ) (s : Stream) (got : ℕ) (fits : s.have + got ≤ length b) where
  taken-grown : s.pass ≡ 0 → s.have + got < header_bytes → taken b out s got ≡ taken_in b out (grown s got)
  unfolding taken
  taken-grown none few = rw (le-leb (s.have + got) (length b) fits, eq-eqb s.pass 0 none, lt-ltb (s.have + got) header_bytes few)

  taken_window : s.pass ≡ 0 → header_bytes ≤ s.have + got → taken b out s got ≡ window_done b out (grown s got)
  unfolding taken
  taken_window none many = rw (le-leb (s.have + got) (length b) fits, eq-eqb s.pass 0 none, le-ltb (s.have + got) header_bytes many)

  taken-passing : got < s.pass → taken b out s got ≡ taken_in b out (passing s got)
  unfolding taken
  taken-passing less =
      rw (le-leb (s.have + got) (length b) fits, ne_eqb s.pass 0 (λ e. omega arith), lt-ltb got s.pass less)

  taken_passed : 0 < s.pass → got ≡ s.pass → taken b out s got ≡ window_done b out (passed_over s)
  unfolding taken
  taken_passed some e =
      rw
      (le-leb (s.have + got) (length b) fits, ne_eqb s.pass 0 (λ z. omega arith), le-ltb got s.pass (omega arith), le-ltb s.pass got (omega arith))

-- the window's bytes are as they were
front_stays : {b p b' : List ℕ} {s : Stream} → Arrives b s p b' → take s.have b' ≡ take s.have b
front_stays {b} {p} {b'} {s} a =
    sym (take-take s.have (s.have + length p) b' (omega arith))
    ∙ ap (take s.have) a.stands
    ∙ take-append-le s.have (take s.have b) p (omega (arith, length-take-le s.have b (omega (arith, a.fits))))
    ∙ take-take s.have s.have b (omega arith)

-- ---- after each piece

module _ (L : ℕ) (come given b : List ℕ) (s : Stream) (p b' out q : List ℕ) (done : List Outcome) (before : ℕ) (big : 128 ≤ L) (a : Arrives b s p b')
    (room : 2 * L ≤ length out) (c : Carries come q done before) (given_are : given ≡ joined (all_events done))
    (tally_is : s.tally ≡ counting done nothing) where
  -- fewer bytes than a header are no sound one
  small_header : (f : List ℕ) → length f < header_bytes → eqb (header_refusal f) 0 ≡ false
  small_header f few = both (eqb (header_refusal f) 0) (λ e. absurd (omega (arith, sound_long f e))) (λ e. e)

  size' : length b ≡ L → length b' ≡ L
  size' size = a.length_stays ∙ size

  -- a piece that completes nothing
  silently : (next : Stream) → next.tally ≡ s.tally → Held L (q ++ p) before b' next → AlongTaken L (come ++ p) given (taken_in b' out next)
  silently next same held =
      record {
        q = q ++ p;
        done = done;
        before = before;
        carries = carries_piece p c;
        given_are = append-nil given ∙ given_are;
        tally_is = same ∙ tally_is;
        held = held;
      }

  -- ---- the window holds the bytes

  plain-length : Plain L q before b s → length q ≡ s.have
  plain-length h = ap length (sym h.window) ∙ length-take-le s.have b (omega (arith, h.size, h.within))

  plain_window : Plain L q before b s → take (s.have + length p) b' ≡ q ++ p
  plain_window h = a.stands ∙ ap (λ (l : List ℕ). l ++ p) h.window

  grows : Plain L q before b s → s.have + length p < header_bytes → AlongTaken L (come ++ p) given (taken_in b' out (grown s (length p)))
  grows h few =
      let q-length : length (q ++ p) ≡ s.have + length p = length-append q p ∙ ap (λ (n : ℕ). n + length p) (plain-length h) in
      silently (grown s (length p)) refl
      (plain
      record {
        size = size' h.size;
        within = omega arith;
        window = plain_window h;
        no_pass = h.no_pass;
        before-is = h.before-is;
        none-whole = packets_bad (q ++ p) (small_header (q ++ p) (omega arith));
        has_room = λ many. absurd (omega arith);
      })

  opens : Plain L q before b s → header_bytes ≤ s.have + length p → AlongTaken L (come ++ p) given (window_done b' out (grown s (length p)))
  opens h enough-bytes =
      let window = plain_window h in
      let within : s.have + length p ≤ L = omega (arith, a.fits, h.size) in
      both (eqb (header_refusal (q ++ p)) 0) (λ sound.
      done-sound L (come ++ p) given b' out (grown s (length p)) (q ++ p) done before big (size' h.size) enough-bytes within room sound (carries_piece p c) given_are tally_is
      (rw window sound) (ap outcomes_in window) (ap (λ (w : List ℕ). kept_from w (refused_at w)) window)
      (rw window (omega (arith, h.before-is))))
      (λ refused.
      done_bad L (come ++ p) given b' out (grown s (length p)) (q ++ p) done before big (size' h.size) within room
      (rw window (same_itself (q ++ p) (omega (arith, length-append q p, plain-length h)))) refused (carries_piece p c) given_are tally_is)

  after-plain : Plain L q before b s → AlongTaken L (come ++ p) given (taken b' out s (length p))
  after-plain h =
      let fits : s.have + length p ≤ length b' = omega (arith, a.fits, a.length_stays) in
      both (ltb (s.have + length p) header_bytes) (λ t.
      let few = ltb-true (s.have + length p) header_bytes t in
      rw (taken-grown b' out s (length p) fits h.no_pass few) (grows h few)) (λ t.
      let many = ltb-false (s.have + length p) header_bytes t in
      rw (taken_window b' out s (length p) fits h.no_pass many) (opens h many))

  -- ---- a packet is passed over

  module _ (h : Long L q before b s) where
    q-length : length q ≡ header_bytes + (length q - header_bytes)
    q-length = omega (arith, h.many)

    piece-sound : eqb (header_refusal (q ++ p)) 0 ≡ true
    piece-sound = ap (λ (n : ℕ). eqb n 0) (refusal_same (header_append q p (omega (arith, h.many)))) ∙ h.sound

    piece-many : 128 ≤ length (q ++ p)
    piece-many = rw (length-append q p) (omega (arith, h.many))

    piece-size : first_size (q ++ p) ≡ first_size q
    piece-size = first_size_lem q p (length q - header_bytes) q-length h.many

    piece-longer : captured (low_first (q ++ p)) (drop header_bytes (q ++ p)) ≡ most_read + s.longer
    piece-longer = omega (arith, piece-size, h.longer_is)

    piece-window : take 128 b' ≡ cut_window (q ++ p)
    piece-window =
        ap (λ (n : ℕ). take n b') (sym h.have_is)
        ∙ front_stays a
        ∙ ap (λ (n : ℕ). take n b) h.have_is
        ∙ h.window
        ∙ sym (cut_append q p (length q - header_bytes) q-length h.many)

    passes-by : length p < s.pass → AlongTaken L (come ++ p) given (taken_in b' out (passing s (length p)))
    passes-by less =
        silently (passing s (length p)) refl
        (long
        record {
          size = size' h.size;
          have_is = h.have_is;
          window = piece-window;
          sound = piece-sound;
          many = piece-many;
          passes = omega arith;
          pass_is = rw (length-append q p, piece-size) (omega (arith, h.pass_is));
          longer_is = piece-longer;
          before-is = h.before-is;
        })

    -- its last byte has come
    exact : length p ≡ s.pass → header_bytes + first_size (q ++ p) ≡ length (q ++ p)
    exact e = rw (length-append q p, piece-size) (omega (arith, h.pass_is))

    passed_by : length p ≡ s.pass → AlongTaken L (come ++ p) given (window_done b' out (passed_over s))
    passed_by e =
        let window : take s.have b' ≡ cut_window (q ++ p) = ap (λ (n : ℕ). take n b') h.have_is ∙ piece-window in
        let most : most_read ≤ captured (low_first (q ++ p)) (drop header_bytes (q ++ p)) = omega (arith, piece-longer) in
        let end = refused_end (q ++ p) piece-sound (omega (arith, piece-many)) (exact e) in
        let cut = cut_refused (q ++ p) piece-sound piece-many (exact e) most in
        done-sound L (come ++ p) given b' out (passed_over s) (q ++ p) done before big (size' h.size) (omega (arith, h.have_is)) (omega (arith, h.have_is)) room
        piece-sound (carries_piece p c) given_are tally_is
        (rw window (cut_sound (q ++ p) piece-sound piece-many (exact e) most))
        (ap outcomes_in window ∙ cut_outcomes (q ++ p) piece-sound piece-many (exact e) most)
        (ap (λ (w : List ℕ). kept_from w (refused_at w)) window ∙ cut_kept (q ++ p) piece-sound piece-many (exact e) most)
        (rw (window, cut, end) (omega (arith, h.before-is, exact e, piece-longer)))

    after-long : AlongTaken L (come ++ p) given (taken b' out s (length p))
    after-long =
        let fits : s.have + length p ≤ length b' = omega (arith, a.fits, a.length_stays) in
        both (ltb (length p) s.pass) (λ t.
        let less = ltb-true (length p) s.pass t in
        rw (taken-passing b' out s (length p) fits less) (passes-by less)) (λ t.
        let e : length p ≡ s.pass = omega (arith, ltb-false (length p) s.pass t, a.no_further h.passes) in
        rw (taken_passed b' out s (length p) fits h.passes e) (passed_by e))

  -- ---- the header is refused

  module _ (h : Bad L q b s) where
    piece-bad : eqb (header_refusal (q ++ p)) 0 ≡ false
    piece-bad = ap (λ (n : ℕ). eqb n 0) (refusal_same (header_append q p h.header.long')) ∙ h.bad

    piece-header : (w : List ℕ) → SameHeader w q → SameHeader w (q ++ p)
    piece-header w x = same_over x (same_back (header_append q p h.header.long'))

    header-grown : SameHeader (take (s.have + length p) b') (q ++ p)
    header-grown = rw a.stands (piece-header _ (same_over (header_append (take s.have b) p h.header.long) h.header))

    header-stays : SameHeader (take s.have b') (q ++ p)
    header-stays = rw (front_stays a) (piece-header _ h.header)

    after-bad : AlongTaken L (come ++ p) given (taken b' out s (length p))
    after-bad =
        let fits : s.have + length p ≤ length b' = omega (arith, a.fits, a.length_stays) in
        let n = length-take-le s.have b (omega (arith, h.size, h.within)) in
        both (eqb s.pass 0) (λ z.
        rw (taken_window b' out s (length p) fits (eqb-true s.pass 0 z) (omega (arith, h.header.long)))
        (done_bad L (come ++ p) given b' out (grown s (length p)) (q ++ p) done before big (size' h.size) (omega (arith, a.fits, h.size)) room
        header-grown piece-bad (carries_piece p c) given_are tally_is)) (λ z.
        let some : 0 < s.pass = omega (arith, eqb-false s.pass 0 z) in
        both (ltb (length p) s.pass) (λ t.
        rw (taken-passing b' out s (length p) fits (ltb-true (length p) s.pass t))
        (silently (passing s (length p)) refl
        (bad record { size = size' h.size; within = h.within; header = header-stays; bad = piece-bad }))) (λ t.
        let e : length p ≡ s.pass = omega (arith, ltb-false (length p) s.pass t, a.no_further some) in
        rw (taken_passed b' out s (length p) fits some e)
        (done_bad L (come ++ p) given b' out (passed_over s) (q ++ p) done before big (size' h.size) h.within room header-stays piece-bad (carries_piece p c) given_are tally_is)))

  after_piece : Held L q before b s → AlongTaken L (come ++ p) given (taken b' out s (length p))
  after_piece (plain h) = after-plain h
  after_piece (long h) = after-long h
  after_piece (bad h) = after-bad h

-- at every moment
none_come : (L : ℕ) → 128 ≤ L → (b : List ℕ) → length b ≡ L → Along L [] [] b beginning
unfolding joined all_events header_refusal
none_come L big b size =
    record {
      q = [];
      done = [];
      before = 0;
      carries = carries_none [];
      given_are = refl;
      tally_is = refl;
      held =
          plain
          record {
            size = size;
            within = omega arith;
            window = refl;
            no_pass = refl;
            before-is = refl;
            none-whole = refl;
            has_room = λ many. absurd (omega arith);
          };
    }

pub along : (L : ℕ) → 128 ≤ L → {come given b : List ℕ} {s : Stream} → Fed L come given b s → Along L come given b s
along L big (begins b size) = none_come L big b size
along L big (comes {come} {given} {b} {s} fed p b' out a room) =
    let h = along L big fed in
    after_piece L come given b s p b' out h.q h.done h.before big a room h.carries h.given_are h.tally_is h.held
