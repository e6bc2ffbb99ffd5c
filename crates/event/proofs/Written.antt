-- Document 01's table of events, turned round: what a record of bytes reads as, it is, byte for byte. The laws of Reading.antt
-- (`packet_reads` and so on) are the other direction; with both, no record is accepted but those that the document writes down.
use Prim.Native.Nat.{ℕ, ◌+◌, ◌*◌, ◌/◌, ◌%◌, ◌<◌, ◌≤◌, ◌^◌}
use mathlib.Core.Bool.{true}
use mathlib.Core.List.{List, [], ◌∷◌, ◌++◌, map}
use mathlib.Core.Path.{◌≡◌, refl, sym, ap, ◌∙◌}
use native.Mathlib.Omega.{arith}
use lib.Dec.{eqb}
use lib.ListN.{length, get_or, take, drop, replicate, length-drop}
use lib.Seq.{get_or-drop}
use borrow.Author.Tests.{eqb-true, eqb-false}
use Rattle.sets.proofs.Cases.{both}
use Rattle.bigendian.specs.BigEndian.{bytes4, number4_at}
use Rattle.bigendian.proofs.RoundTrip.{bytes4-number4}
use Rattle.spans.specs.Spans.{all_zero}
use Rattle.spans.proofs.Scans.{all_zero_zeros}
use Rattle.settings.specs.declared.Settings.{Settings}
use Rattle.settings.specs.Settings.{named, well_formed, valid}
use Rattle.event.specs.declared.Event.{Event}
use Rattle.event.specs.declared.Event.TheVariants.{Packet, End, AddWorking, RemoveWorking, AddHorizon, RemoveHorizon, Configure}
use Rattle.event.specs.Event.{Request, request_by, refused_by, asks_key, names, asks_server, configures, asks_settings, by_kind, event_in, all_bytes}
use Rattle.event.proofs.Reading.{bytes_at, framed, by_server}

-- the body of a record that names a server, and of one that configures
abbrev pub naming : ℕ → List ℕ
naming s = bytes4 s ++ replicate 9 0

abbrev pub setting : Settings → List ℕ
setting s = s.method ∷ s.rows / 2 ^ 8 ∷ s.rows % 2 ^ 8 ∷ replicate 10 0

-- a record and what it reads as
pub data Written (l : List ℕ) : Request → Type 0 where
  packet : (key : List ℕ) → length key ≡ 13 → l ≡ 1 ∷ 0 ∷ 0 ∷ key → Written l (asks_key 1 key)
  end : (key : List ℕ) → length key ≡ 13 → l ≡ 2 ∷ 0 ∷ 0 ∷ key → Written l (asks_key 2 key)
  change : (kind s : ℕ) → 3 ≤ kind → kind ≤ 6 → 0 < s → s < 2 ^ 32 → l ≡ kind ∷ 0 ∷ 0 ∷ naming s → Written l (names kind s)
  configure : (s : Settings) → valid s ≡ true → l ≡ 7 ∷ 0 ∷ 0 ∷ setting s → Written l (configures s)
  no_server : (kind : ℕ) → 3 ≤ kind → kind ≤ 6 → l ≡ kind ∷ 0 ∷ 0 ∷ replicate 13 0 → Written l (refused_by 2)
  malformed : Written l (refused_by 1)

-- a body whose filler is zero
server_body : (b : List ℕ) → length b ≡ 13 → ((i : ℕ) → get_or b i 0 < 256) → all_zero (drop 4 b) ≡ true → b ≡ naming (number4_at b 0)
server_body [] n h z = absurd (omega arith)
server_body (a ∷ []) n h z = absurd (omega arith)
server_body (a ∷ b ∷ []) n h z = absurd (omega arith)
server_body (a ∷ b ∷ c ∷ []) n h z = absurd (omega arith)
server_body (a ∷ b ∷ c ∷ d ∷ rest) n h z =
    let m : length rest ≡ 9 = omega arith in
    let e : rest ≡ replicate 9 0 = all_zero_zeros rest z ∙ ap (λ (k : ℕ). replicate k 0) m in
    ap (λ (x : List ℕ). a ∷ b ∷ c ∷ d ∷ x) e ∙ ap (λ (x : List ℕ). x ++ replicate 9 0) (sym (bytes4-number4 a b c d (h 0) (h 1) (h 2) (h 3)))

settings_body : (b : List ℕ) → length b ≡ 13 → ((i : ℕ) → get_or b i 0 < 256) → all_zero (drop 3 b) ≡ true → b ≡ setting (named b)
settings_body [] n h z = absurd (omega arith)
settings_body (m ∷ []) n h z = absurd (omega arith)
settings_body (m ∷ x ∷ []) n h z = absurd (omega arith)
settings_body (m ∷ x ∷ y ∷ rest) n h z =
    let k : length rest ≡ 10 = omega arith in
    let e : rest ≡ replicate 10 0 = all_zero_zeros rest z ∙ ap (λ (j : ℕ). replicate j 0) k in
    let high : (x * 2 ^ 8 + y) / 2 ^ 8 ≡ x = omega (arith, h 2) in
    let low : (x * 2 ^ 8 + y) % 2 ^ 8 ≡ y = omega (arith, h 2) in
    rw (high, low, e)

-- the two bytes behind the kind
frame : (l : List ℕ) → length l ≡ 16 → all_zero (take 2 (drop 1 l)) ≡ true → l ≡ get_or l 0 0 ∷ 0 ∷ 0 ∷ drop 3 l
frame [] n z = absurd (omega arith)
frame (a ∷ []) n z = absurd (omega arith)
frame (a ∷ b ∷ []) n z = absurd (omega arith)
frame (a ∷ b ∷ c ∷ rest) n z = ap (λ (x : List ℕ). a ∷ (x ++ rest)) (all_zero_zeros (b ∷ c ∷ []) z)

module _ (l : List ℕ) (n : length l ≡ 16) (h : (i : ℕ) → get_or l i 0 < 256) (kind : ℕ) (is : l ≡ kind ∷ 0 ∷ 0 ∷ drop 3 l) where
  body : length (drop 3 l) ≡ 13
  body = simp length-drop (omega arith)

  bytes : (i : ℕ) → get_or (drop 3 l) i 0 < 256
  bytes i = rw (get_or-drop 3 l i 0) (h (3 + i))

  of_server : 3 ≤ kind → kind ≤ 6 → Written l (asks_server kind (drop 3 l))
  unfolding asks_server
  of_server low high =
      let b = drop 3 l in
      let s = number4_at b 0 in
      both (all_zero (drop 4 b)) (λ z. rw z
      (let e : b ≡ naming s = server_body b body bytes z in
      both (eqb s 0)
      (λ q. rw q (no_server kind low high (is ∙ ap (λ (x : List ℕ). kind ∷ 0 ∷ 0 ∷ x) (e ∙ ap naming (eqb-true s 0 q)))))
      (λ q. rw q (change kind s low high (omega (arith, eqb-false s 0 q)) (omega (arith, bytes 0, bytes 1, bytes 2, bytes 3)) (is ∙ ap (λ (x : List ℕ). kind ∷ 0 ∷ 0 ∷ x) e)))))
      (λ z. rw z malformed)

  of_settings : kind ≡ 7 → Written l (asks_settings (drop 3 l))
  unfolding asks_settings well_formed
  of_settings k =
      let b = drop 3 l in
      both (all_zero (drop 3 b)) (λ z. rw z
      (both (valid (named b))
      (λ v. rw v (configure (named b) v (is ∙ ap (λ (x : ℕ). x ∷ 0 ∷ 0 ∷ b) k ∙ ap (λ (x : List ℕ). 7 ∷ 0 ∷ 0 ∷ x) (settings_body b body bytes z))))
      (λ v. rw v malformed)))
      (λ z. rw z malformed)

  at_kind : (k : ℕ) → eqb kind k ≡ true → l ≡ k ∷ 0 ∷ 0 ∷ drop 3 l
  at_kind k e = is ∙ ap (λ (x : ℕ). x ∷ 0 ∷ 0 ∷ drop 3 l) (eqb-true kind k e)

by_kind_lem : (l : List ℕ) (n : length l ≡ 16) (h : (i : ℕ) → get_or l i 0 < 256) (kind : ℕ) → l ≡ kind ∷ 0 ∷ 0 ∷ drop 3 l → Written l (by_kind kind (drop 3 l))
unfolding by_kind
by_kind_lem l n h kind is =
    let server : (k : ℕ) → eqb kind k ≡ true → 3 ≤ k → k ≤ 6 → Written l (asks_server k (drop 3 l)) = λ k e. of_server l n h k (at_kind l n h kind is k e) in
    both (eqb kind 1) (λ e. rw e (packet (drop 3 l) (body l n h kind is) (at_kind l n h kind is 1 e))) (λ e. rw e
    (both (eqb kind 2) (λ e. rw e (end (drop 3 l) (body l n h kind is) (at_kind l n h kind is 2 e))) (λ e. rw e
    (both (eqb kind 3) (λ e. rw e (server 3 e (omega arith) (omega arith))) (λ e. rw e
    (both (eqb kind 4) (λ e. rw e (server 4 e (omega arith) (omega arith))) (λ e. rw e
    (both (eqb kind 5) (λ e. rw e (server 5 e (omega arith) (omega arith))) (λ e. rw e
    (both (eqb kind 6) (λ e. rw e (server 6 e (omega arith) (omega arith))) (λ e. rw e
    (both (eqb kind 7) (λ e. rw e (of_settings l n h kind is (eqb-true kind 7 e))) (λ e. rw e malformed)))))))))))))

pub written : (l : List ℕ) → all_bytes l ≡ true → Written l (event_in l)
unfolding event_in
written l b =
    both (eqb (length l) 16) (λ n. rw n
    (both (all_zero (take 2 (drop 1 l)))
    (λ z. rw z (by_kind_lem l (eqb-true (length l) 16 n) (bytes_at l b) (get_or l 0 0) (frame l (eqb-true (length l) 16 n) z)))
    (λ z. rw z malformed)))
    (λ n. rw n malformed)

-- "kinds 3 to 6 with server 0"
pub no_server_reads : (kind : ℕ) → 3 ≤ kind → kind ≤ 6 → event_in (kind ∷ 0 ∷ 0 ∷ replicate 13 0) ≡ refused_by 2
unfolding asks_server all_zero
no_server_reads kind low high = framed kind (replicate 13 0) refl ∙ by_server kind (replicate 13 0) low high

-- the table's first two columns: what each kind number asks
pub kind_numbers : (key : List ℕ) (s : ℕ) (c : Settings)
    → map (λ (e : Event). (request_by e).kind) (Packet key ∷ End key ∷ AddWorking s ∷ RemoveWorking s ∷ AddHorizon s ∷ RemoveHorizon s ∷ Configure c ∷ [])
    ≡ 1 ∷ 2 ∷ 3 ∷ 4 ∷ 5 ∷ 6 ∷ 7 ∷ []
kind_numbers key s c = refl
