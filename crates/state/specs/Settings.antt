-- Settings: the trap word, circular buffers, the bit-reversed register; refusal 6.
use Rattle.std.specs.Prelude.{ℕ, ◌+◌, ◌%◌, Bool, cond, not, ◌&&◌, ◌||◌, eqb, ltb, leb}
use Rattle.integers.specs.Bits.{bits_at, bit_at}
use Rattle.accumulator.specs.declared.mode.Target.{Target}
use Rattle.accumulator.specs.declared.mode.Target.TheVariants.{A, B}
use Rattle.address.specs.Region.{y_part, all_words, is_inside}
use Rattle.address.specs.Reversal.{is_power}
use Rattle.address.specs.declared.region.Region.{Region}
use Rattle.address.specs.declared.step.Buffer.{Buffer}
use Rattle.state.specs.declared.settings.Circular.{Circular}
use Rattle.state.specs.declared.settings.Settings.{Settings}

-- ---- the trap word

-- bit 10 OVATE, 9 OVBTE
unfoldable pub traps_overflow : ℕ → Target → Bool
traps_overflow t A = bit_at 10 t
traps_overflow t B = bit_at 9 t

-- bit 8 COVTE
unfoldable pub traps_left : ℕ → Bool
traps_left t = bit_at 8 t

-- other bits bad
unfoldable pub is_trap_word : ℕ → Bool
is_trap_word t = eqb (bits_at 11 5 t) 0 && eqb (bits_at 0 8 t) 0

-- ---- without correction

-- no register
abbrev pub no_circular : Circular
no_circular = record { register = 15; buffer = record { start = record { 0 = 0 }; last = record { 0 = 0 } } }

-- so many words of X, no correction, trap word 0
unfoldable pub plain_settings : ℕ → Settings
plain_settings xwords =
    record { xwords = xwords; traps = 0; x = no_circular; y = no_circular; reversed = record { register = 15; words = 0 } }

-- ---- refusal 6

-- memory 2..30,720 words, X part 1..words − 1
unfoldable pub is_parted : ℕ → ℕ → Bool
is_parted x words = leb 2 words && leb words 30720 && leb 1 x && ltb x words

-- S even, E odd, E − S at least 5, both in a region of memory
unfoldable pub is_buffer_in : Region → Buffer → Bool
is_buffer_in region b =
    eqb (b.start.0 % 2) 0
    && eqb (b.last.0 % 2) 1
    && leb (b.start.0 + 5) b.last.0
    && is_inside region b.start.0
    && is_inside region b.last.0

-- a good register with its buffer in a region, or register 15 with S = E = 0
unfoldable pub is_circular_in : Region → Bool → Circular → Bool
is_circular_in region good c =
    cond (eqb c.register 15)
    (eqb c.buffer.start.0 0 && eqb c.buffer.last.0 0)
    (good && is_buffer_in region c.buffer)

-- X register 0..13, in memory
abbrev pub is_x : Settings → ℕ → Bool
is_x s words = is_circular_in (all_words words) (ltb s.x.register 14) s.x

-- Y register 10, 11, in the Y part
abbrev pub is_y : Settings → ℕ → Bool
is_y s words = is_circular_in (y_part s.xwords words) (eqb s.y.register 10 || eqb s.y.register 11) s.y

-- bit-reversed register 0..13, not X's, N a power of two 2..1,024, or 15 with N = 0
unfoldable pub is_reversed : Settings → Bool
is_reversed s =
    cond (eqb s.reversed.register 15)
    (eqb s.reversed.words 0)
    (ltb s.reversed.register 14 && not (eqb s.reversed.register s.x.register) && is_power s.reversed.words)

-- settings for a memory of so many words
unfoldable pub are_settings : Settings → ℕ → Bool
are_settings s words = is_parted s.xwords words && is_trap_word s.traps && is_x s words && is_y s words && is_reversed s

-- 6 where they are not
unfoldable pub settings_refusal : Settings → ℕ → ℕ
settings_refusal s words = cond (are_settings s words) 0 6
