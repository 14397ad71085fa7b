mod HandleBytes
