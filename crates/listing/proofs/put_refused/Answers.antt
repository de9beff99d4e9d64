use Rattle.std.proofs.Common.{arith, rules}
use Rattle.text.specs.Writing.{adds-more}
use Rattle.listing.specs.Listing.{refused_text}
use Rattle.listing.specs.Laws.{front, refused-short, front_as}
use Rattle.listing.proofs.put_refused.Goals as goal

pub returns : goal.returns
unfolding refused_text
returns c =
    front_as (search rules)
    (front (adds-more (adds-more c.bytes.ensures c.number.ensures) c.byte.ensures).text
    (omega (arith, refused-short c.args.n c.ranges.n.fits, c.requires)))
