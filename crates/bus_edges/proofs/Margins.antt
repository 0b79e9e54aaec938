-- The margin can't be wider.
use Rattle.std.specs.Prelude.{◌≡◌, ◌+◌, ◌-◌}
use Rattle.std.proofs.Common.{arith, refl}
use Rattle.bus_edges.specs.Laws.{NoMoreIsBorne}

pub no_more_is_borne : NoMoreIsBorne
no_more_is_borne early late off e =
    let sum : early + late + off ≡ 126 = e in
    record {
      a = 1000;
      b = 1250 - off;
      seen = 1000 + late;
      next = 1250 - off - early;
      length = 124;
      seen_so = record {
        least = omega (arith, sum);
        most = omega (arith, sum);
        first_early = omega (arith, sum);
        first_late = omega (arith, sum);
        next_early = omega (arith, sum);
        next_late = omega (arith, sum);
      };
      between = omega (arith, sum);
      none = refl;
    }
