-- A pair, kinds 2 to 4 with two reads at pointers and no write-back: its words, its fetch, and its whole work. Assumes nothing.
use Rattle.std.proofs.Common.{◌≡◌, ℕ, ◌/◌, ◌≤◌, true, false, not, ◌&&◌, ◌||◌, eqb, leb, List, length, get_or, set, ℤ, pos, Some, Result, Ok, refl, ap, ◌∙◌, arith, ne_eqb, eqb-true, leb-true}
use Rattle.address.specs.declared.trap.Trap.{Trap}
use Rattle.integers.proofs.Whole.{both}
use Rattle.accumulator.specs.Mode.{mode_of}
use Rattle.state.specs.State.{register}
use Rattle.state.specs.declared.settings.Settings.{Settings}
use Rattle.effects.specs.Access.{access_at, region_of}
use Rattle.effects.specs.Mac.{mac_product, loaded, arrived, mac_accesses, mac_registers}
use Rattle.effects.specs.Pointer.{moved_of, step_of}
use Rattle.effects.specs.declared.access.Space.TheVariants.{X, Y}
use Rattle.effects.specs.declared.mac.Accesses.{Accesses}
use Rattle.effects.specs.declared.pointer.Change.{Change}
use Rattle.machine.specs.Write.{put_register, put_memory}
use Rattle.form.specs.Words.{field, kind_in, prefetch_in, mac_in}
use Rattle.form.specs.Form.{Encoded}
use Rattle.fields.specs.Carried.{Carries, Reads}
use Rattle.fields.proofs.Accesses.{prefetch_reads, back_free}
use Rattle.fields.proofs.Pointers.{pointer_moves, back_stays}
use Rattle.products.specs.Fetched.{Accumulates, Fetches, is_pair}
use Rattle.products.specs.declared.mac.Fetched.{Fetched}
use Rattle.products.proofs.Arrivals.{load_some, arrived_words}
use Rattle.products.proofs.WriteBacks.{back_none}
use Rattle.products.proofs.Works.{mac_carries}

-- ---- its words

pub record PairFields (code : List ℕ) (at : ℕ) : Type 0 where
  pub kind : kind_in code at ≤ 7
  pub least : 2 ≤ kind_in code at
  pub most : kind_in code at ≤ 5
  pub x_some : field code at 4 ≡ 0 → ⊥
  pub x_pointer : field code at 4 ≡ 12 → ⊥
  pub y_some : field code at 6 ≡ 0 → ⊥
  pub y_pointer : field code at 6 ≡ 13 → ⊥
  pub back : field code at 10 ≡ 0
  pub plain : (eqb (kind_in code at) 5 || eqb (kind_in code at) 6) ≡ false

pub pair_fields : (code : List ℕ) (at : ℕ) → is_pair code at ≡ true → PairFields code at
pair_fields code at e =
    let kind : ℕ = kind_in code at in
    let x : ℕ = field code at 4 in
    let y : ℕ = field code at 6 in
    let a = both (leb 2 kind && leb kind 4 && eqb (x / 2) 4 && eqb (y / 2) 5) (eqb (field code at 10) 0) e in
    let b = both (leb 2 kind && leb kind 4 && eqb (x / 2) 4) (eqb (y / 2) 5) a.0 in
    let c = both (leb 2 kind && leb kind 4) (eqb (x / 2) 4) b.0 in
    let d = both (leb 2 kind) (leb kind 4) c.0 in
    let xs : x / 2 ≡ 4 = eqb-true (x / 2) 4 c.1 in
    let ys : y / 2 ≡ 5 = eqb-true (y / 2) 5 b.1 in
    let most : kind ≤ 4 = leb-true kind 4 d.1 in
    record {
      kind = omega arith;
      least = leb-true 2 kind d.0;
      most = omega arith;
      x_some = λ (z : x ≡ 0). omega arith;
      x_pointer = λ (z : x ≡ 12). omega arith;
      y_some = λ (z : y ≡ 0). omega arith;
      y_pointer = λ (z : y ≡ 13). omega arith;
      back = eqb-true (field code at 10) 0 a.1;
      plain = rw (ne_eqb kind 5 (λ z. omega arith), ne_eqb kind 6 (λ z. omega arith));
    }

-- both words arrive
pub pair_arrives : (code : List ℕ) (at x y : ℕ) (w : List ℕ) → PairFields code at → set (set w (field code at 8) x) (field code at 9) y ≡ arrived (mac_in code at) x y w
pair_arrives code at x y w p =
    let first : List ℕ = loaded (prefetch_in (field code at 4) (field code at 5) 12) (field code at 8) x w in
    ap (λ (l : List ℕ). set l (field code at 9) y) (load_some (field code at 4) (field code at 8) x (field code at 5) 12 w p.x_some)
    ∙ load_some (field code at 6) (field code at 9) y (field code at 7) 13 first p.y_some
    ∙ arrived_words code at x y w p.plain

-- ---- its fetch

module _ (settings : Settings) (code : List ℕ) (at : ℕ) (w memory : List ℕ) (p : PairFields code at) where
  abbrev accesses : Accesses
  accesses = mac_accesses settings (mac_in code at) w (length memory)

  -- its reads are the accesses
  pub x_reads : (read : Result ℕ Trap) (a : ℕ) → a ≡ register w (field code at 4)
      → ((w' : List ℕ) (change : Change) → Reads read (access_at (region_of settings (length memory) X) a change) w' memory)
      → Reads read accesses.x w memory
  unfolding mac_accesses
  x_reads read a xa first =
      prefetch_reads settings X (field code at 4) (field code at 5) 12 (length memory) w p.x_some memory read a xa
      (λ w' change. rw (ne_eqb (field code at 4) 12 p.x_pointer) (first w' change))

  pub y_reads : (read : Result ℕ Trap) (a : ℕ) → a ≡ register w (field code at 6)
      → ((w' : List ℕ) (change : Change) → Reads read (access_at (region_of settings (length memory) Y) a change) w' memory)
      → Reads read accesses.y w memory
  unfolding mac_accesses
  y_reads read a ya second =
      prefetch_reads settings Y (field code at 6) (field code at 7) 13 (length memory) w p.y_some memory read a ya
      (λ w' change. rw (ne_eqb (field code at 6) 13 p.y_pointer) (second w' change))

  -- it has no write-back
  pub back_is_free : 0 ≡ accesses.back.trap
  unfolding mac_accesses
  back_is_free = back_free settings (field code at 10) (length memory) w (omega (arith, p.back))

-- ---- its whole work

module _ (settings : Settings) (mode : ℕ) {code : List ℕ} {at : ℕ} (acc : List ℤ) (w memory : List ℕ) (f : Fetched)
    (e : Encoded code at) (pair : is_pair code at ≡ true) (fetched : Fetches settings code at w memory f) where
  abbrev xr : ℕ
  xr = field code at 4

  abbrev yr : ℕ
  yr = field code at 6

  -- the product, both pointers set, the words arrived, the exact result
  pub pair_carries : {w1 w2 w3 : List ℕ} → (r p : ℤ)
      → p ≡ mac_product (mode_of mode) (mac_in code at) w
      → w1 ≡ set w xr (moved_of settings.x xr f.xa.0 (step_of (field code at 5)))
      → w2 ≡ set w1 yr (moved_of settings.y yr f.ya.0 (step_of (field code at 7)))
      → w3 ≡ arrived (mac_in code at) f.x f.y w2
      → Accumulates (kind_in code at) (get_or acc (field code at 1) (pos 0)) p r
      → Carries settings mode code at acc w memory w3 memory (Ok (Some r))
  unfolding mac_registers mac_accesses put_register put_memory
  pair_carries {w1} {w2} {w3} r p product e1 e2 e3 exact =
      let fields = pair_fields code at pair in
      let n : ℕ = length memory in
      let x-test : (not (eqb xr 0) && not (eqb xr 12)) ≡ true = rw (ne_eqb xr 0 fields.x_some, ne_eqb xr 12 fields.x_pointer) in
      let y-test : (not (eqb yr 0) && not (eqb yr 13)) ≡ true = rw (ne_eqb yr 0 fields.y_some, ne_eqb yr 13 fields.y_pointer) in
      let first = e1 ∙ pointer_moves settings X xr (field code at 5) 12 f.xa.0 n w w fetched.xa x-test in
      let second = e2 ∙ pointer_moves settings Y yr (field code at 7) 13 f.ya.0 n w w1 fetched.ya y-test in
      let third = back_stays settings (field code at 10) (register w 13) n w w2 refl (omega (arith, fields.back)) in
      mac_carries settings mode acc w memory e fields.kind fetched.free (Some r) p product
      (e3 ∙ rw (fetched.x, fetched.y, third, second, first))
      (rw (back_none (field code at 10) n fields.back settings w))
      (rw (back_none (field code at 10) n fields.back settings w))
      (λ t square some most same. exact t square fields.least fields.most same)
