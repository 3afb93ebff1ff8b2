mod BigEndian
