-- The literal of a scalar is no text.
use Rattle.seg_types.specs.declared.values.ScalarValue.TheVariants.{Bool}
use Rattle.seg_types.specs.{declared.values.ScalarValue.ScalarValue, Written.NoText, Written.literal_seen}

-- the literal of a scalar is no text
pub seen-no_text : (v : ScalarValue) → NoText (literal_seen v)
seen-no_text (Bool b) bs e = absurd (cc)
seen-no_text v bs e = absurd (cc)
