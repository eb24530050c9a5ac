-- What the root writes with the book of an old source and its cards, and how it is counted.
use mathlib.Core.Path.{◌≡◌, refl, sym, ap, ◌∙◌}
use mathlib.Core.Bool.{Bool, true, false, cond}
use mathlib.Core.List.{List, [], ◌∷◌}
use mathlib.Core.Option.{some}
use Prim.Native.Nat.{ℕ, zero, suc, ◌+◌, ◌-◌, ◌%◌, ◌^◌, ◌≤◌, ◌<◌}
use native.Mathlib.Nat.{zero-add, add-zero, mod-eq_of_lt, not-suc-le-zero}
use native.Mathlib.Omega.{arith}
use lib.ListN.{length, get_or, take}
use Rattle.semantics.specs.Text.{Text}
use Rattle.semantics.specs.Lens.{Lens, sheet, entries, and_then, write, put}
use Rattle.semantics.specs.Lens.{Book as Entries}
use Rattle.semantics.specs.Table.{Trees, node_count, trees}
use Rattle.semantics.specs.Calls.{gives, program, max_text}
use Rattle.semantics.specs.Tally.{met, tallied, tally}
use Rattle.laws.specs.Met.{writes_left, dropped_left}
use Rattle.laws.specs.Accepted.{accepted}
use Rattle.laws.specs.Tally.{met_few}
use Rattle.std.specs.Prelude.{Some}
use Rattle.texts.specs.Overlay.{writes_nothing}
use Rattle.lens.specs.Parsed.{parsed_length}
use Rattle.books.specs.declared.Book.{Book}
use Rattle.books.specs.Listed.{entry_at, unused_from, unused}
use Rattle.books.specs.Looking.{BookOver, Dealt, OldParsed, part_at, over_more, unused_dealt, entries_parsed_deck, same_all}
use Rattle.below.specs.Below.{BelowIs}
use Rattle.bookless.specs.Bookless.{Given}
use Rattle.plains.specs.declared.Done.{Done as Did}
use Rattle.counted.specs.Counted.{Fitted}
use Rattle.plains.specs.Writing.{WritesBehind, wrapped, Progress}
use Rattle.matches.specs.WithBook.{Ready as ToWrite}
use Rattle.answers.specs.Answers.{Ready}
use Rattle.answers.specs.Results.{TextReady}
use Rattle.answers.proofs.Giving.{root_at, root_node}
use Rattle.counts.specs.Counts.{unused_of}
use Rattle.dealing.specs.Books.{BookReady}
use Rattle.sources.specs.Sources.{MakesSource, whole_of}

-- ---- Counts

-- a small number is itself modulo 2^64
wrapped_same : {m : ℕ} {k : ℕ} → m < 2 ^ 64 → k ≤ 2097152 → wrapped m ≡ wrapped (0 + k) → m ≡ k
unfolding wrapped
wrapped_same {m} {k} small few e =
    let k_small : k < 2 ^ 64 = omega (arith, few) in
    sym (mod-eq_of_lt small) ∙ e ∙ ap (λ x. x % 2 ^ 64) (zero-add k) ∙ mod-eq_of_lt k_small

-- one mark more
unused_next : (us : List Bool) (i : ℕ) → i < length us → unused_of (take (suc i) us) ≡ unused_of (take i us) + cond (get_or us i false) 0 1
unfolding unused_of
unused_next [] i h = absurd (not-suc-le-zero h)
unused_next (u ∷ us) zero h = omega arith
unused_next (u ∷ us) (suc i) h = let later = unused_next us i (omega arith) in omega (arith, later)

-- the entries from a place on that were not taken are as many as the marks say
unused_from_lem :
    (ts : Trees) (old : Text) (b : Book) (i n : ℕ)
    → i + n ≤ length b.used
    → length (unused_from ts old b i n) + unused_of (take i b.used) ≡ unused_of (take (i + n) b.used)
unfolding unused_from
unused_from_lem ts old b i zero h = rw (add-zero i) (zero-add (unused_of (take i b.used)))
unused_from_lem ts old b i (suc n) h = go (get_or b.used i false) refl (unused_from_lem ts old b (suc i) n (omega arith))
  where
    rest : Entries
    rest = unused_from ts old b (suc i) n

    place : i + suc n ≡ suc i + n
    place = omega arith

    go :
        (u : Bool)
        → get_or b.used i false ≡ u
        → length rest + unused_of (take (suc i) b.used) ≡ unused_of (take (suc i + n) b.used)
        → length (cond u rest (entry_at ts old b i ∷ rest)) + unused_of (take i b.used) ≡ unused_of (take (i + suc n) b.used)
    go true e later =
        let next : unused_of (take (suc i) b.used) ≡ unused_of (take i b.used) + 0 = rw e at (unused_next b.used i (omega arith)) in
        rw place (omega (arith, later, next))
    go false e later =
        let next : unused_of (take (suc i) b.used) ≡ unused_of (take i b.used) + 1 = rw e at (unused_next b.used i (omega arith)) in
        rw place (omega (arith, later, next))

-- so are those of the book
unused_counted : (ts : Trees) (old : Text) (b : Book) → BookOver 4096 b → length (unused ts old b) ≡ unused_of (take b.count b.used)
unfolding unused unused_of
unused_counted ts old b over =
    let from = unused_from_lem ts old b 0 b.count (omega (arith, over.fits.few, over.sized.used_sized)) in
    sym (add-zero (length (unused_from ts old b 0 b.count))) ∙ from ∙ ap (λ n. unused_of (take n b.used)) (zero-add b.count)

-- ---- What the root writes

module _ {bytes : Text} {prepared : List ℕ} (ready : Ready bytes prepared) {root : ℕ} (root_is : root ≡ node_count bytes - 1) where
  module _ {old trail deck : Text} {b : Book} (book : BookReady bytes old trail b) (dealt : Dealt bytes old trail b deck) where
    -- the path is as long as the old source
    as_long : length trail ≡ length old
    as_long = parsed_length book.old_ready.parsed

    -- the book of the old source and a deck with its cards are what the root puts with
    pub to_put : {below : List ℕ} → BelowIs bytes below → 9216 ≤ length deck → ToWrite bytes prepared root deck below b
    to_put below_is size =
        record {
          lens_node = root_node ready root_is;
          looks_in = record {
            over = over_more book.old_ready.short book.over;
            cards_fit = dealt.cards_fit;
            entries_parsed = entries_parsed_deck dealt book.over book.old_ready.short as_long book.entries_parsed;
            deck_room = size;
          };
          below_is = below_is;
        }

    -- the old source in the deck is parsed by the path there
    old_in_deck : OldParsed bytes root deck (whole_of (length old))
    old_in_deck =
        record {
          inside = omega (arith, book.old_ready.short);
          parsed = rw (root_is, ← as_long, dealt.trail_is, as_long, dealt.source_is) book.old_ready.parsed;
        }

    -- it is what a sheet is put onto
    pub to_give :
        {new path : List ℕ}
        → TextReady bytes sheet new path
        → 9216 ≤ length deck
        → Given bytes (record { node = root; base = 0 }) new path (whole_of (length old)) deck
    to_give known size =
        record {
          sheet_given = record { new_short = known.short; parsed = rw root_is known.parsed; deck_room = omega arith };
          old_parsed = old_in_deck;
        }

    -- what is then written, from nothing on, is what the root puts
    put_progress :
        (new : Text) {before after : Text} {r : Did}
        → WritesBehind bytes root deck (some (part_at deck (whole_of (length old)))) new (record { wrote = Some 0; book = b; met = 0 }) before after r
        → (l : Lens)
        → program bytes ≡ gives l
        → Progress
        bytes
        deck
        (and_then (record { text = []; book = entries l old }) (write l (some old) new))
        (0 + length (met l (some old) new))
        b
        before
        after
        r
    put_progress new {before} behind l e =
        let same = unused_dealt (trees bytes) old deck book.over dealt.source_is ∙ book.listed l e in
        let start : Progress bytes deck (record { text = []; book = unused (trees bytes) deck b }) 0 b before before (record { wrote = Some 0; book = b; met = 0 }) =
        record {
          bytes_are = writes_nothing before;
          met_is = refl;
          book_is = λ counted. refl;
          over = over_more book.old_ready.short book.over;
          same_entries = same_all b;
        } in
        rw
        (dealt.source_is, same)
        at ((behind.writes l (root_at ready root_is l e)).progress (record { text = []; book = unused (trees bytes) deck b }) 0 b before start)

    -- the book that is left has its arrays
    pub put_over :
        (new : Text) {before after : Text} {r : Did}
        → WritesBehind bytes root deck (some (part_at deck (whole_of (length old)))) new (record { wrote = Some 0; book = b; met = 0 }) before after r
        → BookOver 4096 r.book
    put_over new behind = (put_progress new behind ready.accepted.root ready.accepted.gives_root).over

    pub put_made :
        (new : Text) {before after : Text} {r : Did} (dropped : ℕ)
        → length new ≤ max_text
        → r.met < 2 ^ 64
        → dropped ≡ unused_of (take r.book.count r.book.used)
        → WritesBehind bytes root deck (some (part_at deck (whole_of (length old)))) new (record { wrote = Some 0; book = b; met = 0 }) before after r
        → MakesSource bytes new old before after (record { wrote = r.wrote; met = r.met; dropped = dropped })
    unfolding put and_then tally
    put_made new {r = r} dropped short small dropped_is behind =
        record {
          makes = record { makes = λ l e. (put_progress new behind l e).bytes_are };
          counts = λ l e room.
              let p = put_progress new behind l e in
              let few = met_few bytes l e (some old) new short in
              let typed = (accepted bytes l e).0 in
              let ms = met l (some old) new in
              let left : length (unused (trees bytes) deck r.book) ≡ (tallied ms (entries l old)).dropped =
              ap length (p.book_is room ∙ writes_left l typed (some old) new (entries l old)) ∙ sym (dropped_left ms (entries l old)) in
              (wrapped_same small few p.met_is, dropped_is ∙ sym (unused_counted (trees bytes) deck r.book p.over) ∙ left);
        }

-- nothing was written so far
pub none_written : (out : Text) → Fitted (Some 0) out
none_written out = record { within = λ n e. let z : ◌≡◌ {A = ℕ} 0 n = cc e in omega arith }
